use Rattle.std.proofs.Common.{refl}
use Rattle.condition_code.proofs.States.{spot_later, state_later}
use Rattle.condition_actions.proofs.Each.{makes_none, makes_one, makes_all, of_ids}
use Rattle.condition_actions.proofs.threads.each_passable.Goals as goal

pub loop-o-init : goal.loop-o-init
loop-o-init c = makes_none _ _ _ _ _ _ c.new-tests.ensures.items

pub loop-o-preserved : goal.loop-o-preserved
loop-o-preserved c =
    let l = c.loop-o in
    makes_one _ _ _ _ 0 refl l.invariant c.loop-o-test.true c.in_ok-test.ensures.later
    (λ k known o is. c.in_ok-test.ensures.stands k.0 k.1 o (spot_later l.invariant.later known.0) (state_later l.invariant.later known.1) (l.invariant.later _ _ is)) c.in_ok-push.ensures.items

pub returns-clause-stands : goal.returns-clause-stands
returns-clause-stands c = λ b s xs hb hs all. makes_all c.loop-o.invariant c.loop-o-test.false (b, s) (hb, hs) xs (of_ids all)
