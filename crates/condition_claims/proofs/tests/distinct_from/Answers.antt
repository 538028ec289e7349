use Rattle.condition_claims.proofs.Each.{of_none, of_formula, of_all}
use Rattle.condition_claims.proofs.tests.distinct_from.Goals as goal

pub loop-q-init : goal.loop-q-init
loop-q-init c = of_none c.new-all.ensures.items

pub loop-q-preserved : goal.loop-q-preserved
loop-q-preserved c =
    of_formula c.loop-q.invariant c.loop-q-test.true c.in_ok-apart.ensures.later (λ f g known is. c.in_ok-apart.ensures.stands f g (c.loop-q.invariant.later _ _ known) (c.loop-q.invariant.later _ _ is)) c.in_ok-push.ensures.items

pub returns-clause-stands : goal.returns-clause-stands
returns-clause-stands c = of_all c.loop-q.invariant c.loop-q-test.false
