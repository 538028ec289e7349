use Rattle.std.proofs.Common.{refl, sym, ap, ◌∙◌}
use Rattle.object_types.specs.Heap.{is_absent}
use Rattle.object_types.proofs.Present.{fresh_above, fresh_first}
use Rattle.object_types.proofs.heap.Heap.fresh.Goals as goal

pub returns-in-Some-clause-some : goal.returns-in-Some-clause-some
returns-in-Some-clause-some c =
    let kept = c.newest.ensures.kept in
    let at_last = ap is_absent (sym c.view-last.ensures.mode) ∙ sym c.is_absent.ensures ∙ c.if-not-is_absent.false in
    (refl, fresh_above c.args.self.now c.args.ty c.in-Some.serial kept at_last c.in-Some.ensures.some)

pub returns-in-None-clause-some : goal.returns-in-None-clause-some
returns-in-None-clause-some c =
    let kept = c.newest.ensures.kept in
    let at_last = ap is_absent (sym c.view-last.ensures.mode) ∙ sym c.is_absent.ensures ∙ c.if-not-is_absent.false in
    (refl, fresh_first c.args.self.now c.args.ty kept at_last c.in-None.ensures.none)
