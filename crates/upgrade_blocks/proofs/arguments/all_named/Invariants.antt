use Rattle.upgrade_blocks.proofs.Numbers.{ReadsNames}
use Rattle.upgrade_blocks.proofs.arguments.all_named.Given as goal

abbrev pub invariant-loop-i : goal.invariant-loop-i
invariant-loop-i l = ReadsNames l.names l.numbers l.i l.nodes.items
