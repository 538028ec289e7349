use Rattle.std.proofs.Common.{◌∷◌, [], ◌∙◌, arith}
use Rattle.vcc_verify.specs.declared.fault.VerifyFault.TheVariants as f
use Rattle.vcc_verify.specs.Texts.{blocks_text}
use Rattle.vcc_verify.specs.Writing.{After}
use Rattle.vcc_verify.proofs.Fronts.{front_none}
use Rattle.vcc_verify.proofs.Cuts.{exits}
use Rattle.vcc_verify.proofs.Heads.{block_cut, block_holds, block_too_long}
use Rattle.vcc_verify.proofs.certificate.write_block.Goals as goal

pub returns-in_err-text-clause-after : goal.returns-in_err-text-clause-after
returns-in_err-text-clause-after g c = λ before text stands.
    exits c.from_residual.result f.OutOfMemory (λ r. After r before (g.S.Store.contents c.args.store.now) c.args.cert.now text (c.args.block.now ∷ [])) c.from_residual.ensures.1
    (front_none before c.args.cert.now (g.S.Store.contents c.args.store.now) text (blocks_text (c.args.block.now ∷ [])) stands.holds)

pub returns-then-len-written-clause-after : goal.returns-then-len-written-clause-after
returns-then-len-written-clause-after g c = λ before text stands.
    block_too_long before _ _ text c.args.written _ c.args.block.now c.in_ok-text.ensures stands (omega (arith, c.if-len-written.true, c.len.ensures))

pub returns-in_err-append_all-clause-after : goal.returns-in_err-append_all-clause-after
returns-in_err-append_all-clause-after g c = λ before text stands.
    exits c.from_residual-in_err-append_all.result _ (λ r. After r before (g.S.Store.contents c.append_all.new.store) c.args.cert.now text (c.args.block.now ∷ [])) c.from_residual-in_err-append_all.ensures.1
    (block_cut c.in_err-append_all.field-0.0 before (g.S.Store.contents c.args.store.now) _ _ text c.as_slice.result.now c.args.block.now (c.as_slice.ensures.value ∙ c.in_ok-text.ensures) stands.holds c.in_err-append_all.ensures.err c.in_err-append_all.ensures.missing)

pub returns-clause-after : goal.returns-clause-after
returns-clause-after g c = λ before text stands.
    block_holds before (g.S.Store.contents c.args.store.now) _ _ text c.as_slice.result.now c.args.block.now (c.as_slice.ensures.value ∙ c.in_ok-text.ensures) stands.holds c.in_ok-append_all.ensures.ok
