use Rattle.std.proofs.Common.{Some, Result, refl, ap, ◌∙◌}
use Rattle.vcc_judge.specs.declared.trial.Trial.{Trial}
use Rattle.vcc_judge.specs.declared.verdict.JudgeFault.{JudgeFault}
use Rattle.vcc_io.proofs.Sessions.{block_tried_if}
use Rattle.vcc_io.proofs.certificate.CertificateTrial.take_block.Goals as goal

pub returns-in-Some-Ok-clause-took : goal.returns-in-Some-Ok-clause-took
returns-in-Some-Ok-clause-took c = λ s.
    block_tried_if c.args.theory s c.args.block.now c.args.self.now _ _ c.take_block.new.self c.take_block.result refl refl c.in-Some.ensures.1
    (c.in-Some-Ok.is ∙ ap (λ (r : Result Trial JudgeFault). Some r) c.in-Some-Ok.field-0-is) refl c.take_block.ensures.tried c.take_block.ensures.ready
