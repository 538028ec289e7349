use Rattle.condition_formulas.proofs.Symbolics.{symbolic_later}
use Rattle.condition_code.proofs.Walks.{gives, run_built, check_then}
use Rattle.condition_code.proofs.operations.converted.Goals as goal

pub returns : goal.returns
returns c = λ p b w hw.
    let x = c.in_ok-x.ensures.stands _ hw in
    let went = c.in_ok-check.ensures _ (c.in_ok-fits.ensures.stands p b _ x) in
    let value = symbolic_later went.later (symbolic_later c.in_ok-fits.ensures.later (symbolic_later c.in_ok-x.ensures.later hw)) in
    run_built c.in_ok-x.ensures.later (run_built c.in_ok-fits.ensures.later (check_then went (gives (λ n f h. h) value)))
