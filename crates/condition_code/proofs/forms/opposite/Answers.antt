use Rattle.condition_code.proofs.Walks.{run_built}
use Rattle.condition_code.proofs.forms.opposite.Goals as goal

pub returns : goal.returns
returns c = λ p b w hw.
    let x = c.in_ok-x.ensures.stands _ hw in
    let id = c.in_ok-id.ensures.stands _ _ c.in_ok-zero.ensures.stands (c.in_ok-zero.ensures.later _ _ x) in
    run_built c.in_ok-x.ensures.later (run_built c.in_ok-zero.ensures.later (run_built c.in_ok-id.ensures.later (c.in_ok-value.ensures p b _ id)))
