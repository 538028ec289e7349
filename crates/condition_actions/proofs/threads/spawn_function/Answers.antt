use Rattle.conditions.specs.Code.{call_scene}
use Rattle.conditions.specs.Formulas.{me}
use Rattle.condition_formulas.proofs.Rows.{same_ids}
use Rattle.condition_formulas.proofs.Symbolics.{are_later}
use Rattle.condition_code.proofs.States.{spot_later, state_later}
use Rattle.condition_code.proofs.Walks.{run_built}
use Rattle.condition_actions.proofs.threads.spawn_function.Goals as goal

pub returns : goal.returns
returns c = λ b ws s hb hw hs.
    let on1 = c.in_ok-own.ensures.later in
    let on2 = c.in_ok-words.ensures.later in
    let on3 = c.in_ok-items.ensures.later in
    let words = c.in_ok-words.ensures.stands me s.heap ws c.in_ok-own.ensures.stands (on1 _ _ hs.heap_is) (are_later on1 hw) in
    let items = rw c.deref.ensures.value at (c.in_ok-items.ensures.stands b (call_scene me s.heap ws) words) in
    let hb3 = spot_later on3 (spot_later on2 (spot_later on1 hb)) in
    let hw3 = are_later on3 (are_later on2 (are_later on1 hw)) in
    let hs3 = state_later on3 (state_later on2 (state_later on1 hs)) in
    run_built on1 (run_built on2 (run_built on3 (c.in_ok-state.ensures b ws _ s hb3 hw3 (same_ids c.deref-2.ensures.value items) hs3)))
