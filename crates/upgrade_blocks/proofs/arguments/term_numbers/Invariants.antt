use Rattle.upgrade_blocks.proofs.Numbers.{ReadsMarks}
use Rattle.upgrade_blocks.proofs.arguments.term_numbers.Given as goal

abbrev pub invariant-loop-i : goal.invariant-loop-i
invariant-loop-i l = ReadsMarks l.marks l.args l.i l.numbers.items
