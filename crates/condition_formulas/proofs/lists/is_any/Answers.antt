use Rattle.conditions.specs.Formulas.{eq}
use Rattle.condition_formulas.proofs.Joins.{one_more, all_made}
use Rattle.condition_formulas.proofs.lists.is_any.Goals as goal

pub loop-id-preserved : goal.loop-id-preserved
loop-id-preserved c =
    one_more c.args.graph.now c.loop-id.graph c.eq.new.graph c.args.x eq c.args.ids.now c.loop-id.all.items c.push.new.self.items c.loop-id.id-index c.in_ok-same.same c.loop-id.invariant c.loop-id-test.true c.in_ok-same.ensures.later c.in_ok-same.ensures.stands c.in_ok-push.ensures.items

pub returns-clause-stands : goal.returns-clause-stands
returns-clause-stands c = all_made c.loop-id.invariant c.loop-id-test.false c.loop-id.auto.id-index-end
