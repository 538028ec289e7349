use Rattle.condition_stores.proofs.Filling.{every_field, no_field, one_field}
use Rattle.condition_stores.proofs.heaps.with_fields.Goals as goal

pub loop-value-init : goal.loop-value-init
loop-value-init c = no_field c.args.graph.now c.args.o c.args.first c.args.values.now c.args.heap

pub loop-value-preserved : goal.loop-value-preserved
loop-value-preserved c = one_field _ c.loop-value.invariant c.loop-value-test.true c.in_ok-full.ensures.later c.in_ok-full.ensures.stands c.in-Some.ensures.1

pub returns-clause-stands : goal.returns-clause-stands
returns-clause-stands c = every_field c.loop-value.invariant c.loop-value-test.false
