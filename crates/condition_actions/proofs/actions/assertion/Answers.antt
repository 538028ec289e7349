use Rattle.condition_actions.proofs.actions.assertion.Goals as goal

pub returns-clause-stands : goal.returns-clause-stands
returns-clause-stands c = λ b s hb hs. c.formula.ensures.stands _ (c.in_ok-words.ensures.stands b s hb hs)
