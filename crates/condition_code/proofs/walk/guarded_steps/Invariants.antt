use Rattle.condition_code.proofs.Walks.{GuardedTo}
use Rattle.condition_code.proofs.walk.guarded_steps.Given as goal

abbrev pub invariant-loop-step : goal.invariant-loop-step
invariant-loop-step l = GuardedTo l.fn.graph l.graph l.test l.steps l.guarded.items l.step-index
