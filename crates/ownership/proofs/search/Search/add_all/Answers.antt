use Rattle.ownership.proofs.Adding.{adds_start, adds_next, adds_end}
use Rattle.ownership.proofs.search.Search.add_all.Goals as goal

pub loop-o-init : goal.loop-o-init
loop-o-init c = adds_start _

pub loop-o-preserved : goal.loop-o-preserved
loop-o-preserved c = adds_next c.args.objects.now c.loop-o.o-index _ _ _ _ c.loop-o.invariant c.loop-o-test.true c.in_ok-add.ensures.ok

pub returns : goal.returns
returns c = record { ok = adds_end c.args.objects.now c.loop-o.o-index _ _ c.loop-o.invariant c.loop-o-test.false }
