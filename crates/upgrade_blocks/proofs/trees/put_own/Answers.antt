use Rattle.std.proofs.Common.{arith, None, Some}
use Rattle.block_layout.specs.Trees.{tree_over}
use Rattle.block_layout.proofs.Named.{none_or}
use Rattle.block_layout.proofs.Spaces.{keeps_itself, keeps_then, stays_itself, stays_then}
use Rattle.upgrade_blocks.proofs.Placing.{front_first, front_next, front_stop, front_end, puts_by}
use Rattle.upgrade_blocks.proofs.trees.put_own.Goals as goal

pub loop-i-init : goal.loop-i-init
loop-i-init c = record { kept = keeps_itself; sorted = stays_itself; front = λ first all. front_first tree_over first c.args.own.now c.args.space.now.graph c.args.names.now.items all }

pub returns-in_err-node-clause-kept : goal.returns-in_err-node-clause-kept
returns-in_err-node-clause-kept c = keeps_then c.loop-i.invariant.kept c.put_term.ensures.kept

pub returns-in_default-clause-put : goal.returns-in_default-clause-put
returns-in_default-clause-put c = λ first all.
    front_stop tree_over first c.args.own.now c.loop-i.i c.node.result.now c.loop-i.space.graph c.put_term.new.space.graph c.loop-i.names.items c.node.ensures.node
    (puts_by tree_over c.node.result.now c.loop-i.space.graph c.put_term.new.space.graph c.deref.result.now c.loop-i.names.items c.in_ok-node.node None c.deref.ensures.value (none_or c.in_ok-node.node c.in_default.not-Some) c.in_ok-node.ensures.exact)
    (c.loop-i.invariant.front first all)

pub returns-in_default-clause-kept : goal.returns-in_default-clause-kept
returns-in_default-clause-kept c = keeps_then c.loop-i.invariant.kept c.put_term.ensures.kept

pub returns-in_default-clause-sorted : goal.returns-in_default-clause-sorted
returns-in_default-clause-sorted c = stays_then c.loop-i.invariant.sorted c.in_ok-node.ensures.sorted

pub returns-in_err-push-clause-kept : goal.returns-in_err-push-clause-kept
returns-in_err-push-clause-kept c = keeps_then c.loop-i.invariant.kept c.put_term.ensures.kept

pub loop-i-preserved : goal.loop-i-preserved
loop-i-preserved c = record {
  kept = keeps_then c.loop-i.invariant.kept c.put_term.ensures.kept;
  sorted = stays_then c.loop-i.invariant.sorted c.in_ok-node.ensures.sorted;
  front = λ first all.
      front_next tree_over first c.args.own.now c.loop-i.i c.node.result.now c.loop-i.space.graph c.put_term.new.space.graph c.loop-i.names.items c.push.new.self.items c.in-Some.id c.node.ensures.node c.put_term.ensures.kept.later
      (puts_by tree_over c.node.result.now c.loop-i.space.graph c.put_term.new.space.graph c.deref.result.now c.loop-i.names.items c.in_ok-node.node (Some c.in-Some.id) c.deref.ensures.value c.in-Some.is c.in_ok-node.ensures.exact)
      c.in_ok-push.ensures.items (c.loop-i.invariant.front first all);
}

pub returns-clause-put : goal.returns-clause-put
returns-clause-put c = λ first all. front_end tree_over first c.args.own.now c.loop-i.i c.loop-i.space.graph c.loop-i.names.items (omega (arith, c.loop-i-test.false, c.len-i-end.ensures.len)) (c.loop-i.invariant.front first all)
