use Rattle.std.proofs.Common.{take, All}
use Rattle.cert_format.specs.Text.{IsStep}
use Rattle.cert_format.specs.declared.certificate.Owner.TheVariants.{OfCondition}
use Rattle.vcc_search.proofs.blocks.are_steps.Given as goal

abbrev pub invariant-loop-step : goal.invariant-loop-step
invariant-loop-step l = record { fit : All (IsStep (OfCondition 1)) (take l.step-index l.steps) }
