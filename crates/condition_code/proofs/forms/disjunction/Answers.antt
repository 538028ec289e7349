use Rattle.condition_formulas.proofs.Symbolics.{symbolic_later, is_truth}
use Rattle.condition_code.proofs.Walks.{gives, run_built}
use Rattle.condition_code.proofs.forms.disjunction.Goals as goal

pub returns : goal.returns
returns c = λ x y hx hy.
    let left = c.in_ok-left.ensures.stands _ hx in
    let right = c.in_ok-right.ensures.stands _ (symbolic_later c.in_ok-left.ensures.later hy) in
    let whole = c.in_ok-id.ensures.stands _ _ (c.in_ok-right.ensures.later _ _ left) right in
    run_built c.in_ok-left.ensures.later (run_built c.in_ok-right.ensures.later (gives c.in_ok-id.ensures.later (is_truth whole)))
