use Rattle.upgrade_blocks.proofs.Numbers.{ReadsNaturals}
use Rattle.upgrade_blocks.proofs.arguments.naturals.Given as goal

abbrev pub invariant-loop-i : goal.invariant-loop-i
invariant-loop-i l = ReadsNaturals l.numbers l.i l.all.items
