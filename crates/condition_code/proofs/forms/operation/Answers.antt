use Rattle.condition_formulas.proofs.Symbolics.{symbolic_later}
use Rattle.condition_code.proofs.Walks.{run_built}
use Rattle.condition_code.proofs.forms.operation.Goals as goal

pub returns : goal.returns
returns c = λ p b x y hx hy.
    let left = c.in_ok-left.ensures.stands _ hx in
    let right = c.in_ok-right.ensures.stands _ (symbolic_later c.in_ok-left.ensures.later hy) in
    run_built c.in_ok-left.ensures.later (run_built c.in_ok-right.ensures.later (c.in_ok-value.ensures p b _ _ (c.in_ok-right.ensures.later _ _ left) right))
