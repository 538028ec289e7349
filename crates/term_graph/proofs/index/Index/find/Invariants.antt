use Rattle.term_graph.proofs.Chains.{Sought}
use Rattle.term_graph.proofs.index.Index.find.Given as goal

abbrev pub decreases-loop-next : goal.decreases-loop-next
decreases-loop-next l = l.next

abbrev pub invariant-loop-next : goal.invariant-loop-next
invariant-loop-next l = Sought l.pool.items l.node l.self.newest.items l.next
