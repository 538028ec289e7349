use Rattle.condition_code.proofs.States.{deferred_later}
use Rattle.condition_actions.proofs.Each.{makes_none, makes_one, makes_all, of_objects}
use Rattle.condition_actions.proofs.blocks.deferred_tests.Goals as goal

pub loop-object-init : goal.loop-object-init
loop-object-init c = makes_none _ _ _ _ _ _ c.new-tests.ensures.items

pub loop-object-preserved : goal.loop-object-preserved
loop-object-preserved c =
    let l = c.loop-object in
    makes_one _ _ _ c.object-item.result c.object-item.result c.object-item.is l.invariant c.loop-object-test.true c.in_ok-test.ensures.later
    (λ h known d is. c.in_ok-test.ensures.stands h.0 h.1 d (l.invariant.later _ _ known.0) (l.invariant.later _ _ known.1) (deferred_later l.invariant.later is)) c.in_ok-push.ensures.items

pub returns-clause-stands : goal.returns-clause-stands
returns-clause-stands c = λ h0 h1 ds hb ha all. makes_all c.loop-object.invariant c.loop-object-test.false (h0, h1) (hb, ha) ds (of_objects all)
