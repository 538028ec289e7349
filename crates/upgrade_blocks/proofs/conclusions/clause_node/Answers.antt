use Rattle.std.proofs.Common.{rules, ◌≡◌, length}
use Rattle.upgrade_blocks.proofs.Nodes.{clause_is, literal_is}
use Rattle.upgrade_blocks.proofs.conclusions.clause_node.Goals as goal

pub returns : goal.returns
returns c = λ ts trees all.
    let e : length c.args.clause.now ≡ 1 = search rules in
    clause_is ts trees c.args.clause.now c.first_of.result c.literal_node.result e c.first_of.ensures (literal_is ts c.args.names.now trees c.first_of.result c.literal_node.result all c.literal_node.ensures)
