use Rattle.std.proofs.Common.{◌≡◌, ◌++◌, replicate, true}
use Rattle.upgrade_blocks.proofs.arguments.mark_terms.Given as goal

abbrev pub invariant-loop : goal.invariant-loop
invariant-loop l = l.marks.items ≡ l.fn.marks.items ++ replicate l.counter true
