use Rattle.std.proofs.Common.{refl}
use Rattle.condition_actions.proofs.Each.{makes_none, makes_one, makes_all, of_ids}
use Rattle.condition_actions.proofs.blocks.invariants.Goals as goal

pub loop-o-init : goal.loop-o-init
loop-o-init c = makes_none _ _ _ _ _ _ c.new-tests.ensures.items

pub loop-o-preserved : goal.loop-o-preserved
loop-o-preserved c =
    let l = c.loop-o in
    makes_one _ _ _ _ 0 refl l.invariant c.loop-o-test.true c.in_ok-test.ensures.later
    (λ h known o is. c.in_ok-test.ensures.stands o h.0 h.1 (l.invariant.later _ _ is) (l.invariant.later _ _ known.0) (l.invariant.later _ _ known.1)) c.in_ok-push.ensures.items

pub returns-clause-stands : goal.returns-clause-stands
returns-clause-stands c = λ os h0 h1 all hb ha. makes_all c.loop-o.invariant c.loop-o-test.false (h0, h1) (hb, ha) os (of_ids all)
