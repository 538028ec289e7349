use Rattle.std.proofs.Common.{arith, None, Some}
use Rattle.block_layout.specs.Trees.{sorted_tree}
use Rattle.block_layout.proofs.Named.{none_or}
use Rattle.block_layout.proofs.Spaces.{keeps_itself, keeps_then, stays_itself, stays_then}
use Rattle.upgrade_blocks.proofs.Placing.{front_first, front_next, front_stop, front_end, puts_by}
use Rattle.upgrade_blocks.proofs.trees.put_added.Goals as goal

pub loop-i-init : goal.loop-i-init
loop-i-init c = record { kept = keeps_itself; sorted = stays_itself; front = λ m first is s all. front_first (sorted_tree m) first c.args.added.now c.args.space.now.graph c.args.names.now.items all }

pub returns-in_err-node-clause-kept : goal.returns-in_err-node-clause-kept
returns-in_err-node-clause-kept c = keeps_then c.loop-i.invariant.kept c.put_sorted.ensures.kept

pub returns-in_default-clause-put : goal.returns-in_default-clause-put
returns-in_default-clause-put c = λ m first is s all.
    front_stop (sorted_tree m) first c.args.added.now c.loop-i.i c.term_at.result.now c.loop-i.space.graph c.put_sorted.new.space.graph c.loop-i.names.items c.term_at.ensures
    (puts_by (sorted_tree m) c.term_at.result.now c.loop-i.space.graph c.put_sorted.new.space.graph c.deref.result.now c.loop-i.names.items c.in_ok-node.node None c.deref.ensures.value (none_or c.in_ok-node.node c.in_default.not-Some)
    (λ fs h. c.in_ok-node.ensures.exact m fs is (c.loop-i.invariant.sorted.sorted m is s) h))
    (c.loop-i.invariant.front m first is s all)

pub returns-in_default-clause-kept : goal.returns-in_default-clause-kept
returns-in_default-clause-kept c = keeps_then c.loop-i.invariant.kept c.put_sorted.ensures.kept

pub returns-in_default-clause-sorted : goal.returns-in_default-clause-sorted
returns-in_default-clause-sorted c = stays_then c.loop-i.invariant.sorted c.in_ok-node.ensures.sorted

pub returns-in_err-push-clause-kept : goal.returns-in_err-push-clause-kept
returns-in_err-push-clause-kept c = keeps_then c.loop-i.invariant.kept c.put_sorted.ensures.kept

pub loop-i-preserved : goal.loop-i-preserved
loop-i-preserved c = record {
  kept = keeps_then c.loop-i.invariant.kept c.put_sorted.ensures.kept;
  sorted = stays_then c.loop-i.invariant.sorted c.in_ok-node.ensures.sorted;
  front = λ m first is s all.
      front_next (sorted_tree m) first c.args.added.now c.loop-i.i c.term_at.result.now c.loop-i.space.graph c.put_sorted.new.space.graph c.loop-i.names.items c.push.new.self.items c.in-Some.id c.term_at.ensures c.put_sorted.ensures.kept.later
      (puts_by (sorted_tree m) c.term_at.result.now c.loop-i.space.graph c.put_sorted.new.space.graph c.deref.result.now c.loop-i.names.items c.in_ok-node.node (Some c.in-Some.id) c.deref.ensures.value c.in-Some.is
      (λ fs h. c.in_ok-node.ensures.exact m fs is (c.loop-i.invariant.sorted.sorted m is s) h))
      c.in_ok-push.ensures.items (c.loop-i.invariant.front m first is s all);
}

pub returns-clause-put : goal.returns-clause-put
returns-clause-put c = λ m first is s all. front_end (sorted_tree m) first c.args.added.now c.loop-i.i c.loop-i.space.graph c.loop-i.names.items (omega (arith, c.loop-i-test.false)) (c.loop-i.invariant.front m first is s all)
