use Rattle.condition_walk.proofs.Entries.{RangesTo}
use Rattle.condition_walk.proofs.entry.parameter_ranges.Given as goal

abbrev pub invariant-loop-i : goal.invariant-loop-i
invariant-loop-i l = RangesTo l.fn.graph l.graph l.variables l.args l.all.items l.i
