use Rattle.rule_instances.proofs.Heaps.{at_top, one_down, at_bottom}
use Rattle.rule_instances.proofs.clean.is_clean.Goals as goal

pub loop-before-init : goal.loop-before-init
loop-before-init c = at_top c.args.program.now c.args.graph.now c.args.id

pub loop-before-preserved : goal.loop-before-preserved
loop-before-preserved c = one_down c.loop-before.invariant c.in-Some.ensures.some

pub returns : goal.returns
returns c = at_bottom c.loop-before.invariant c.in_default.ensures.none c.is_heap_constant.ensures
