use Rattle.condition_control.proofs.invariants.invariant_formulas.Goals as goal

pub returns-clause-stands : goal.returns-clause-stands
returns-clause-stands c = λ f b s hb hs. c.in_ok-formulas.ensures.stands _ (c.in_ok-words.ensures.stands b s hb hs)
