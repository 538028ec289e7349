use Rattle.condition_annotations.proofs.truth.formula.Goals as goal

pub returns-clause-stands : goal.returns-clause-stands
returns-clause-stands c = λ s h. c.test.ensures.stands _ (c.in_ok-value.ensures.stands s h)
