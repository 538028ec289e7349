use Rattle.std.proofs.Common.{◌≡◌, ◌+◌, take}
use Rattle.cert_format.specs.Text.{literals_of}
use Rattle.ground_prover.proofs.small.have_few_literals.Given as goal

abbrev pub invariant-loop-step : goal.invariant-loop-step
invariant-loop-step l = l.left + literals_of (take l.step-index l.steps) ≡ 4194304
