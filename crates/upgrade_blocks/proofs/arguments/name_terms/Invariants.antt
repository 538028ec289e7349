use Rattle.upgrade_blocks.proofs.Counts.{ReadsParameters}
use Rattle.upgrade_blocks.proofs.arguments.name_terms.Given as goal

abbrev pub invariant-loop-i : goal.invariant-loop-i
invariant-loop-i l = ReadsParameters l.columns l.parameters l.args l.i l.marks.items
