use Rattle.condition_claims.proofs.admissible.is_of_type.Goals as goal

pub returns-clause-stands : goal.returns-clause-stands
returns-clause-stands c = λ f h.
    c.eq.ensures.stands _ _ (c.in_ok-wanted.ensures.later _ _ (c.in_ok-number.ensures.stands _ h)) c.in_ok-wanted.ensures.stands
