use Rattle.elab_shapes.proofs.Collecting.{one_seen}
use Rattle.elab_shapes.proofs.collect.first_ones.Goals as goal

pub loop-one-preserved : goal.loop-one-preserved
loop-one-preserved c = one_seen c.loop-one.found.items c.add_new.new.found.items c.loop-one.one-iterator.rest.items c.next.new.self.rest.items c.in-Some.one _ c.in-Some.ensures.steps.0 c.in_ok-add_new.ensures c.loop-one.invariant
