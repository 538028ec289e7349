use Rattle.condition_scenes.proofs.conjuncts.shape_formula.Goals as goal

pub returns-clause-stands : goal.returns-clause-stands
returns-clause-stands c = λ h ws hh hws.
    c.formula.ensures.stands _ (c.in_ok-words.ensures.stands h ws hh hws)
