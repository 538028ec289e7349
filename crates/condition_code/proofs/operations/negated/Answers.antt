use Rattle.condition_formulas.proofs.Symbolics.{is_number}
use Rattle.condition_code.proofs.Walks.{gives, run_built, check_then}
use Rattle.condition_code.proofs.operations.negated.Goals as goal

pub returns : goal.returns
returns c = λ p b f hf.
    let went = c.in_ok-check.ensures _ (c.in_ok-fits.ensures.stands p b _ hf) in
    run_built c.in_ok-fits.ensures.later (check_then went (gives (λ n g h. h) (is_number (went.later _ _ (c.in_ok-fits.ensures.later _ _ hf)))))
