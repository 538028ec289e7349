use Rattle.condition_formulas.proofs.columns.closed.Goals as goal

pub returns-clause-stands : goal.returns-clause-stands
returns-clause-stands c = λ h x h0 h1. c.eq.ensures.stands _ _ (c.in_ok-two.ensures.later _ _ (c.in_ok-now.ensures.stands _ _ h0 h1)) c.in_ok-two.ensures.stands
