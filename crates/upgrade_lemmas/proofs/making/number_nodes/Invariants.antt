use Rattle.upgrade_lemmas.proofs.Numbering.{Turn}
use Rattle.upgrade_lemmas.proofs.making.number_nodes.Given as goal

abbrev pub invariant-loop-node : goal.invariant-loop-node
invariant-loop-node l = Turn l.graph l.fn.terms l.terms l.nodes l.ids.items l.node-index
