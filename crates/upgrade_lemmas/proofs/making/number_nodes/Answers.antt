use Rattle.std.proofs.Common.{arith}
use Rattle.upgrade_lemmas.proofs.Numbering.{turn_next, turn_last}
use Rattle.upgrade_lemmas.proofs.making.number_nodes.Goals as goal

pub loop-node-preserved : goal.loop-node-preserved
loop-node-preserved c =
    turn_next c.args.graph.now c.args.terms.now c.loop-node.terms c.number_node.new.terms c.args.nodes.now c.loop-node.ids.items c.push.new.self.items c.loop-node.node-index c.in_ok-id.id c.loop-node.invariant c.loop-node-test.true
    c.in_ok-id.ensures c.in_ok-push.ensures.items

pub returns : goal.returns
returns c = turn_last c.args.graph.now c.args.terms.now c.loop-node.terms c.args.nodes.now c.loop-node.ids.items c.loop-node.node-index c.loop-node.invariant (omega arith)
