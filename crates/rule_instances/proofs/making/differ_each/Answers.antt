use Rattle.axiom_instances.specs.Terms.{no, eq}
use Rattle.condition_formulas.proofs.Joins.{one_more, all_made}
use Rattle.rule_instances.proofs.making.differ_each.Goals as goal

pub loop-id-preserved : goal.loop-id-preserved
loop-id-preserved c =
    one_more c.args.graph.now c.loop-id.graph c.differ.new.graph c.args.x (λ f g. no (eq f g)) c.args.ids.now c.loop-id.all.items c.push.new.self.items c.loop-id.id-index c.in_ok-other.other c.loop-id.invariant c.loop-id-test.true c.in_ok-other.ensures.later c.in_ok-other.ensures.stands c.in_ok-push.ensures.items

pub returns-clause-stands : goal.returns-clause-stands
returns-clause-stands c = all_made c.loop-id.invariant c.loop-id-test.false c.loop-id.auto.id-index-end
