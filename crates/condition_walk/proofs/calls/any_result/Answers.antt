use Rattle.std.proofs.Common.{ap, sym}
use Rattle.conditions.specs.Statements.{any_result}
use Rattle.condition_control.proofs.Runs.{as_run}
use Rattle.condition_walk.proofs.calls.any_result.Goals as goal

pub returns-in_ok-value-in-Some : goal.returns-in_ok-value-in-Some
returns-in_ok-value-in-Some c = λ p f b s hs. as_run (sym (ap (λ o. any_result p f b o s) c.in-Some.is)) (c.in_ok-value-in-Some.ensures s hs)

pub returns-in_ok-value-in-None : goal.returns-in_ok-value-in-None
returns-in_ok-value-in-None c = λ p f b s hs. as_run (sym (ap (λ o. any_result p f b o s) c.in-None.is)) (c.in_ok-value-in-None.ensures p f b s hs)
