use Rattle.block_layout.specs.Trees.{tree_over}
use Rattle.upgrade_blocks.proofs.trees.put_sorted.Goals as goal

pub returns-clause-exact : goal.returns-clause-exact
returns-clause-exact c = λ l trees is s all. c.if_sorted.ensures l (tree_over trees c.args.term.now) (c.in_ok-id.ensures.sorted.sorted l is s) (c.in_ok-id.ensures.exact trees all)
