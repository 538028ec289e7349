use Rattle.condition_formulas.proofs.Rows.{none, same_ids}
use Rattle.block_layout.proofs.Spaces.{stays_then}
use Rattle.std.proofs.Common.{[]}
use Rattle.upgrade_blocks.proofs.Placing.{none_put, added_put}
use Rattle.upgrade_blocks.proofs.trees.put_terms.Goals as goal

pub returns-then-not-whole-clause-put : goal.returns-then-not-whole-clause-put
returns-then-not-whole-clause-put c = λ l is s.
    none_put l c.args.own.now c.args.added.now c.put_own.new.space.graph c.put_own.new.names.items c.in_ok-whole.whole c.if-not-whole.true (c.in_ok-whole.ensures.put [] (same_ids c.requires none))

pub returns-clause-put : goal.returns-clause-put
returns-clause-put c = λ l is s.
    added_put l c.args.own.now c.args.added.now c.put_own.new.space.graph c.put_added.new.space.graph c.put_own.new.names.items c.put_added.new.names.items c.in_ok-whole.whole c.in_ok-good.good c.if-not-whole.false (c.in_ok-whole.ensures.put [] (same_ids c.requires none))
    (λ first all. c.in_ok-good.ensures.put l first is (c.in_ok-whole.ensures.sorted.sorted l is s) all)

pub returns-clause-sorted : goal.returns-clause-sorted
returns-clause-sorted c = stays_then c.in_ok-whole.ensures.sorted c.in_ok-good.ensures.sorted
