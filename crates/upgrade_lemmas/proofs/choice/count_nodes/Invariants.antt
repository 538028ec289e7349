use Rattle.upgrade_lemmas.proofs.Counting.{Counting}
use Rattle.upgrade_lemmas.proofs.choice.count_nodes.Given as goal

abbrev pub invariant-loop-conclusion : goal.invariant-loop-conclusion
invariant-loop-conclusion l = Counting l.nodes l.list l.counts.items l.conclusion-index
