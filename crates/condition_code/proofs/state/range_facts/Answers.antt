use Rattle.condition_formulas.proofs.Rows.{same_ids}
use Rattle.condition_code.proofs.States.{value_and_state_later}
use Rattle.condition_code.proofs.Walks.{gives, run_built, facts_then}
use Rattle.condition_code.proofs.state.range_facts.Goals as goal

pub returns : goal.returns
returns c = λ w hw.
    let value = c.in_ok-value.ensures.stands _ hw.value_is in
    let facts = c.in_ok-facts.ensures.stands _ value in
    let went = c.in_ok-all_facts.ensures _ (same_ids c.deref.ensures.value facts) in
    let behind = value_and_state_later went.later (value_and_state_later c.in_ok-facts.ensures.later (value_and_state_later c.in_ok-value.ensures.later hw)) in
    run_built c.in_ok-value.ensures.later (run_built c.in_ok-facts.ensures.later (facts_then _ went (gives (λ n f h. h) behind)))
