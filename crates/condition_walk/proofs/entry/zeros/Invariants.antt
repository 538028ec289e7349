use Rattle.condition_walk.proofs.Entries.{ZerosTo}
use Rattle.condition_walk.proofs.entry.zeros.Given as goal

abbrev pub invariant-loop-variable : goal.invariant-loop-variable
invariant-loop-variable l = ZerosTo l.fn.graph l.graph l.variables l.values.items l.variable-index
