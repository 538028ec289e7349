use Rattle.annotation_scenes.proofs.Done.{likes_next, likes_last}
use Rattle.annotation_scenes.proofs.formal.constants_like.Goals as goal

pub loop-i-preserved : goal.loop-i-preserved
loop-i-preserved c =
    likes_next c.args.graph.now c.loop-i.graph c.constant_like.new.graph c.args.first c.args.values.now c.loop-i.like.items c.push.new.self.items c.loop-i.i c.in_ok-constant.constant _ c.loop-i.invariant c.loop-i-test.true c.in_ok-constant.ensures.later c.in_ok-constant.ensures.stands c.in_ok-push.ensures.items

pub returns-clause-stands : goal.returns-clause-stands
returns-clause-stands c = λ ws are. likes_last c.loop-i.invariant c.loop-i-test.false ws are
