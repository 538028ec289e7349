use Rattle.std.proofs.Common.{◌+◌, refl, arith, length-drop, length-take}
use Rattle.std.proofs.lemmas.Result.{err_from_is_err_and}
use Rattle.vcc_base.proofs.Appending.{Grown, grown_none, grown_more, grown_all, fault_missing}
use Rattle.vcc_base.proofs.whole.append_all.Goals as goal

pub pieces-init : goal.pieces-init
pieces-init g c = record { within = omega arith; grown = grown_none _ _ _; reads_stay = refl; never_falls = omega arith }

pub pieces-preserved : goal.pieces-preserved
pieces-preserved g c =
    record {
      within = grind (arith, length-drop, length-take, c.in_ok-count.ensures.within);
      grown = grown_more _ (g.S.Store.contents c.pieces.store) _ _ _ c.pieces.done c.in_ok-count.count c.pieces.invariant.grown c.in_ok-count.ensures.ok c.in_ok-count.ensures.absent;
      reads_stay = cc c.in_ok-count.ensures.reads_stay;
      never_falls = omega (arith, c.in_ok-count.ensures.never_falls);
    }

pub returns-in_err-count-clause-missing : goal.returns-in_err-count-clause-missing
returns-in_err-count-clause-missing g c =
    let p = err_from_is_err_and c.from_residual.result c.from_residual.ensures.1 in
    rw (p.1, p.2) (fault_missing _ (g.S.Store.contents c.pieces.store) _ _ _ c.in_err-count.field-0.0 c.pieces.invariant.grown c.in_err-count.ensures.missing)

pub returns-then-done-piece-clause-ok : goal.returns-then-done-piece-clause-ok
returns-then-done-piece-clause-ok g c =
    let grown : Grown (g.S.Store.contents c.args.store.now) (g.S.Store.contents c.append.new.self) c.args.name.now c.args.piece.now (c.pieces.done + c.in_ok-count.count) =
    grown_more _ (g.S.Store.contents c.pieces.store) _ _ _ c.pieces.done c.in_ok-count.count c.pieces.invariant.grown c.in_ok-count.ensures.ok c.in_ok-count.ensures.absent in
    grown_all _ _ _ _ _ grown c.if-done-piece.true
