use Rattle.annotation_scenes.proofs.Done.{terms_next, terms_last}
use Rattle.annotation_scenes.proofs.quantifiers.terms.Goals as goal

pub loop-value-preserved : goal.loop-value-preserved
loop-value-preserved c =
    terms_next c.args.graph.now c.loop-value.graph c.term.new.graph c.args.values.now c.loop-value.all.items c.push.new.self.items c.loop-value.value-index c.in_ok-id.id _ c.loop-value.invariant c.loop-value-test.true c.in_ok-id.ensures.later c.in_ok-id.ensures.stands c.in_ok-push.ensures.items

pub returns-clause-stands : goal.returns-clause-stands
returns-clause-stands c = λ ws are. terms_last c.loop-value.invariant c.loop-value-test.false ws are
