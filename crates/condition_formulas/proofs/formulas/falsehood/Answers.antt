use Rattle.condition_formulas.proofs.formulas.falsehood.Goals as goal

pub returns-clause-stands : goal.returns-clause-stands
returns-clause-stands c = c.not.ensures.stands _ c.in_ok-always.ensures.stands
