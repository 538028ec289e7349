use Rattle.rule_instances.proofs.Reading.{one_taken, one_refused, all_taken, drop_here, drop_end}
use Rattle.rule_instances.proofs.block.Block.take_all.Goals as goal

pub returns-in_default : goal.returns-in_default
returns-in_default c = λ ts l tree is. one_refused (c.loop-sort.invariant ts l tree is) (c.in_default.ensures.none ts l tree is) (drop_here c.args.sorts.now c.loop-sort.sort-index _ c.loop-sort-test.true)

pub loop-sort-preserved : goal.loop-sort-preserved
loop-sort-preserved c = λ ts l tree is. one_taken (c.loop-sort.invariant ts l tree is) (c.in-Some.ensures.some ts l tree is) (drop_here c.args.sorts.now c.loop-sort.sort-index _ c.loop-sort-test.true) c.in_ok-push.ensures.items

pub returns : goal.returns
returns c = λ ts l tree is. all_taken (c.loop-sort.invariant ts l tree is) (drop_end c.args.sorts.now c.loop-sort.sort-index c.loop-sort-test.false)
