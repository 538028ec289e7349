use Rattle.std.proofs.Common.{◌≡◌, ◌++◌, drop}
use Rattle.condition_branches.specs.Facts.{facts_left}
use Rattle.condition_branches.proofs.facts.facts_left.Given as goal

abbrev pub invariant-loop-step : goal.invariant-loop-step
invariant-loop-step l = l.ids.items ++ facts_left l.depth (drop l.step-index l.steps) ≡ facts_left 0 l.steps
