use Rattle.condition_formulas.proofs.Rows.{same_ids}
use Rattle.condition_code.proofs.States.{state_later}
use Rattle.condition_code.proofs.Walks.{gives, run_built, checks_then}
use Rattle.condition_control.proofs.invariants.check_invariants.Goals as goal

pub returns : goal.returns
returns c = λ f b s hb hs.
    let went = c.in_ok-check_each.ensures _ (same_ids c.deref.ensures.value (c.in_ok-formulas.ensures.stands f b s hb hs)) in
    run_built c.in_ok-formulas.ensures.later (checks_then _ went (gives (λ n g h. h) (state_later went.later (state_later c.in_ok-formulas.ensures.later hs))))
