use Rattle.machine_claims.proofs.Membership.{distinct_fails, distinct_next}
use Rattle.machine_claims.proofs.making.all_distinct.Goals as goal

pub returns-then-contains : goal.returns-then-contains
returns-then-contains c = distinct_fails c.args.objects.now c.in-Some.later.now c.loop-o.rest.now c.in-Some.o.now c.contains.result c.loop-o.invariant c.in-Some.ensures.cases.0 c.contains.ensures c.if-contains.true

pub loop-o-preserved : goal.loop-o-preserved
loop-o-preserved c = distinct_next c.args.objects.now c.in-Some.later.now c.loop-o.rest.now c.in-Some.o.now c.contains.result c.loop-o.invariant c.in-Some.ensures.cases.0 c.contains.ensures c.if-contains.false
