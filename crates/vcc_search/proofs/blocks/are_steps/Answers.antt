use Rattle.std.proofs.Common.{List, All, subst, arith}
use Rattle.std.proofs.lemmas.List.{take_all}
use Rattle.std.proofs.lemmas.List.Elements.{All-more}
use Rattle.cert_format.specs.declared.certificate.Step.{Step}
use Rattle.cert_format.specs.declared.certificate.Owner.TheVariants.{OfCondition}
use Rattle.cert_format.specs.Text.{IsStep}
use Rattle.vcc_search.proofs.blocks.are_steps.Goals as goal

pub loop-step-preserved : goal.loop-step-preserved
loop-step-preserved c = record { fit = All-more (IsStep (OfCondition 1)) c.args.steps.now c.loop-step.step-index c.step-item.result c.loop-step-test.true c.loop-step.invariant.fit (subst (IsStep (OfCondition 1)) c.step-item.is (c.is_step.ensures c.if-not-is_step.false)) }

pub returns : goal.returns
returns c = λ yes. subst (λ (xs : List Step). All (IsStep (OfCondition 1)) xs) (take_all c.loop-step.step-index c.args.steps.now (omega (arith, c.loop-step-test.false))) c.loop-step.invariant.fit
