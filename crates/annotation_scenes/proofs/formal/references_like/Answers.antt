use Rattle.annotation_scenes.proofs.Done.{references_next, references_last}
use Rattle.annotation_scenes.proofs.formal.references_like.Goals as goal

pub loop-i-preserved : goal.loop-i-preserved
loop-i-preserved c =
    references_next c.args.graph.now c.loop-i.graph c.reference.new.graph c.args.first c.args.ids.now c.loop-i.like.items c.push.new.self.items c.loop-i.i c.in_ok-constant.constant c.loop-i.invariant c.loop-i-test.true c.in_ok-constant.ensures.later c.in_ok-constant.ensures.stands c.in_ok-push.ensures.items

pub returns-clause-stands : goal.returns-clause-stands
returns-clause-stands c = λ fs all. references_last c.loop-i.invariant c.loop-i-test.false fs all
