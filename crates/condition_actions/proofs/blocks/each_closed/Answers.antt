use Rattle.conditions.specs.Formulas.{closed}
use Rattle.condition_formulas.proofs.Joins.{one_more, all_made}
use Rattle.condition_actions.proofs.blocks.each_closed.Goals as goal

pub loop-o-preserved : goal.loop-o-preserved
loop-o-preserved c =
    one_more c.args.graph.now c.loop-o.graph c.closed.new.graph c.args.heap closed c.args.objects.now c.loop-o.tests.items c.push.new.self.items c.loop-o.o-index c.in_ok-test.test c.loop-o.invariant c.loop-o-test.true c.in_ok-test.ensures.later c.in_ok-test.ensures.stands c.in_ok-push.ensures.items

pub returns-clause-stands : goal.returns-clause-stands
returns-clause-stands c = all_made c.loop-o.invariant c.loop-o-test.false c.loop-o.auto.o-index-end
