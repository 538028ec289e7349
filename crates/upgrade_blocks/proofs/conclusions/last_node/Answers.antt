use Rattle.std.proofs.Common.{rules, ◌≡◌, length, refl}
use Rattle.upgrade_blocks.proofs.Nodes.{no_last, last_is}
use Rattle.upgrade_blocks.proofs.conclusions.last_node.Goals as goal

pub returns-then-is_empty : goal.returns-then-is_empty
returns-then-is_empty c = λ ts trees all.
    let e : length c.args.numbers.now ≡ 0 = search rules in
    no_last ts trees c.args.numbers.now e

pub returns : goal.returns
returns c = λ ts trees all. last_is ts c.args.names.now trees c.args.numbers.now _ c.name_in.result all refl c.name_in.ensures
