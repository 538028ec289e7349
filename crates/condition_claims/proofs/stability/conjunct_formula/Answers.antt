use Rattle.condition_claims.proofs.stability.conjunct_formula.Goals as goal

pub returns-clause-stands : goal.returns-clause-stands
returns-clause-stands c = λ h s hh hs. c.in_ok-id.ensures.stands h _ (c.in_ok-entry.ensures.later _ _ hh) (c.in_ok-entry.ensures.stands s hs)
