use Rattle.condition_formulas.proofs.symbolic.has_type.Goals as goal

pub returns-clause-stands : goal.returns-clause-stands
returns-clause-stands c = λ f h0. c.eq.ensures.stands _ _ (c.in_ok-wanted.ensures.later _ _ (c.in_ok-ty.ensures.stands _ h0)) c.in_ok-wanted.ensures.stands
