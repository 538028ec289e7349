use Rattle.condition_code.proofs.States.{same_values}
use Rattle.program_language.proofs.conjuncts.conjunct_formula.Goals as goal

pub returns-clause-stands : goal.returns-clause-stands
returns-clause-stands c =
    let now = c.in_ok-values.ensures.later _ _ c.in_ok-now.ensures.stands in
    let values = rw c.deref.ensures.value at c.in_ok-values.ensures.stands in
    c.shape_formula.ensures.stands _ _ now (same_values c.deref-2.ensures.value values)
