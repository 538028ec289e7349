use Rattle.machine_ownership.proofs.Sets.{set_next}
use Rattle.machine_ownership.proofs.items.set_of.Goals as goal

pub loop-o-preserved : goal.loop-o-preserved
loop-o-preserved c = set_next c.args.objects.now c.loop-o.o-index _ c.loop-o.set _ c.loop-o.invariant c.loop-o-test.true c.in_ok-set.ensures.ok
