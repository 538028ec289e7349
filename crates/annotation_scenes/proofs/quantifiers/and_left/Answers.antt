use Rattle.annotation_scenes.proofs.Done.{lefts_next, lefts_last}
use Rattle.annotation_scenes.proofs.quantifiers.and_left.Goals as goal

pub loop-id-preserved : goal.loop-id-preserved
loop-id-preserved c =
    lefts_next c.args.graph.now c.loop-id.graph c.and.new.graph c.args.first c.args.rest.now c.loop-id.id-index c.loop-id.all c.in_ok-all.all c.loop-id.invariant c.loop-id-test.true c.in_ok-all.ensures.later c.in_ok-all.ensures.stands

pub returns-clause-stands : goal.returns-clause-stands
returns-clause-stands c = λ f fs is all. lefts_last c.loop-id.invariant c.loop-id-test.false f fs is all
