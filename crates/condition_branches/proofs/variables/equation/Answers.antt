use Rattle.condition_formulas.proofs.Symbolics.{symbolic_later}
use Rattle.condition_branches.proofs.variables.equation.Goals as goal

pub returns-clause-stands : goal.returns-clause-stands
returns-clause-stands c = λ v w hv hw.
    let left = c.in_ok-left.ensures.stands v hv in
    let right = c.in_ok-right.ensures.stands w (symbolic_later c.in_ok-left.ensures.later hw) in
    c.eq.ensures.stands _ _ (c.in_ok-right.ensures.later _ _ left) right
