use Rattle.condition_formulas.proofs.Symbolics.{is_number}
use Rattle.condition_code.proofs.Walks.{gives, run_built, check_then}
use Rattle.condition_code.proofs.operations.ranged.Goals as goal

pub returns : goal.returns
returns c = λ p b f g hf hg.
    let checked = c.in_ok-checked.ensures.stands p b f g hf hg in
    let fits = c.in_ok-fits.ensures.stands p b _ checked in
    let went = c.in_ok-check.ensures _ fits in
    let f1 = went.later _ _ (c.in_ok-fits.ensures.later _ _ (c.in_ok-checked.ensures.later _ _ hf)) in
    let g1 = went.later _ _ (c.in_ok-fits.ensures.later _ _ (c.in_ok-checked.ensures.later _ _ hg)) in
    run_built c.in_ok-checked.ensures.later (run_built c.in_ok-fits.ensures.later (check_then went (gives c.in_ok-value.ensures.later (is_number (c.in_ok-value.ensures.stands _ _ f1 g1)))))
