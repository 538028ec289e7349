use Rattle.condition_formulas.proofs.Symbolics.{symbolic_later}
use Rattle.condition_code.proofs.Walks.{gives, run_built}
use Rattle.condition_code.proofs.forms.choice.Goals as goal

pub returns : goal.returns
returns c = λ x y z hx hy hz.
    let passes = c.in_ok-passes.ensures.stands _ hx in
    let whole = c.in_ok-value.ensures.stands _ _ _ passes (symbolic_later c.in_ok-passes.ensures.later hy) (symbolic_later c.in_ok-passes.ensures.later hz) in
    run_built c.in_ok-passes.ensures.later (gives c.in_ok-value.ensures.later whole)
