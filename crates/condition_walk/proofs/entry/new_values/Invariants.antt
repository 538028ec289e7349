use Rattle.condition_walk.proofs.Entries.{NewTo}
use Rattle.condition_walk.proofs.entry.new_values.Given as goal

abbrev pub invariant-loop-variable : goal.invariant-loop-variable
invariant-loop-variable l = NewTo l.fn.graph l.graph l.variables l.initial.st l.st l.values.items l.variable-index
