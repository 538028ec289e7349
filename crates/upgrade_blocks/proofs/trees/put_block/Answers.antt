use Rattle.upgrade_blocks.specs.Trees.{own_then}
use Rattle.upgrade_blocks.proofs.Placing.{nothing_named, all_named}
use Rattle.upgrade_blocks.proofs.trees.put_block.Goals as goal

pub returns-then-not-whole-clause-put : goal.returns-then-not-whole-clause-put
returns-then-not-whole-clause-put c = λ l is s.
    nothing_named c.put_terms.new.space.graph c.put_terms.new.names.items _ (own_then l c.args.own.now c.args.added.now) c.in_ok-whole.whole c.if-not-whole.true c.new.ensures.items (c.in_ok-whole.ensures.put l is s)

pub returns-clause-put : goal.returns-clause-put
returns-clause-put c = λ l is s. all_named c.put_terms.new.space.graph c.put_terms.new.names.items (own_then l c.args.own.now c.args.added.now) c.in_ok-whole.whole c.if-not-whole.false (c.in_ok-whole.ensures.put l is s)
