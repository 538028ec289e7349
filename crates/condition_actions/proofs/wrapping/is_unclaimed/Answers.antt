use Rattle.condition_actions.proofs.wrapping.is_unclaimed.Goals as goal

pub returns-clause-stands : goal.returns-clause-stands
returns-clause-stands c = λ h x hh hx.
    c.eq.ensures.stands _ _ (c.in_ok-zero.ensures.later _ _ (c.in_ok-claims.ensures.stands h x hh hx)) c.in_ok-zero.ensures.stands
