use Rattle.std.proofs.Common.{◌≡◌, length, inl, refl, ap, ◌∙◌, arith}
use Rattle.vcc_verify.specs.declared.fault.VerifyFault.TheVariants as f
use Rattle.vcc_verify.specs.Writing.{Begins}
use Rattle.vcc_verify.proofs.Cuts.{exits}
use Rattle.vcc_verify.proofs.Heads.{no_create, head_cut, head_stands}
use Rattle.vcc_verify.proofs.certificate.begin.Goals as goal

pub returns-in_err-text-clause-begins : goal.returns-in_err-text-clause-begins
returns-in_err-text-clause-begins g c =
    exits c.from_residual.result f.OutOfMemory (λ r. Begins r (g.S.Store.contents c.args.store.now) (g.S.Store.contents c.args.store.now) c.args.cert.now c.args.count) c.from_residual.ensures.1 (inl refl)

pub returns-in_err-create-clause-begins : goal.returns-in_err-create-clause-begins
returns-in_err-create-clause-begins g c =
    exits c.from_residual-in_err-create.result _ (λ r. Begins r (g.S.Store.contents c.args.store.now) (g.S.Store.contents c.create.new.self) c.args.cert.now c.args.count) c.from_residual-in_err-create.ensures.1
    (no_create c.in_err-create.field-0.0 _ _ _ _ c.in_err-create.ensures.never_missing c.in_err-create.ensures.err)

pub returns-in_err-append_all-clause-begins : goal.returns-in_err-append_all-clause-begins
returns-in_err-append_all-clause-begins g c =
    exits c.from_residual-in_err-append_all.result _ (λ r. Begins r (g.S.Store.contents c.args.store.now) (g.S.Store.contents c.append_all.new.store) c.args.cert.now c.args.count) c.from_residual-in_err-append_all.ensures.1
    (head_cut c.in_err-append_all.field-0.0 _ (g.S.Store.contents c.create.new.self) _ _ _ c.as_slice.result.now (c.as_slice.ensures.value ∙ c.in_ok-text.ensures) c.in_ok-create.ensures.ok c.in_err-append_all.ensures.err c.in_err-append_all.ensures.missing)

pub returns-clause-begins : goal.returns-clause-begins
returns-clause-begins g c =
    let same : length c.as_slice.result.now ≡ length c.in_ok-text.text.items = ap length c.as_slice.ensures.value in
    head_stands _ (g.S.Store.contents c.create.new.self) _ _ _ _ c.as_slice.result.now (c.as_slice.ensures.value ∙ c.in_ok-text.ensures) (omega (arith, c.len.ensures, same)) c.requires c.in_ok-create.ensures.ok c.in_ok-append_all.ensures.ok
