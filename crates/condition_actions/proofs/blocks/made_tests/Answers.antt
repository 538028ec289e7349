use Rattle.condition_code.proofs.States.{claim_later}
use Rattle.condition_actions.proofs.Each.{makes_none, makes_one, makes_all, of_claims}
use Rattle.condition_actions.proofs.blocks.made_tests.Goals as goal

pub loop-claim-init : goal.loop-claim-init
loop-claim-init c = makes_none _ _ _ _ _ _ c.new-tests.ensures.items

pub loop-claim-preserved : goal.loop-claim-preserved
loop-claim-preserved c =
    let l = c.loop-claim in
    makes_one _ _ _ c.claim-item.result c.claim-item.result c.claim-item.is l.invariant c.loop-claim-test.true c.in_ok-test.ensures.later
    (λ h known d is. c.in_ok-test.ensures.stands h d (l.invariant.later _ _ known) (claim_later l.invariant.later is)) c.in_ok-push.ensures.items

pub returns-clause-stands : goal.returns-clause-stands
returns-clause-stands c = λ h ds hh all. makes_all c.loop-claim.invariant c.loop-claim-test.false h hh ds (of_claims all)
