use Rattle.condition_code.proofs.States.{same_values, state_later}
use Rattle.condition_code.proofs.Walks.{fact_then, gives, run_built}
use Rattle.condition_formulas.proofs.Symbolics.{are_later, is_reference}
use Rattle.condition_stores.proofs.Places.{then_later}
use Rattle.condition_stores.proofs.objects.new_object.Goals as goal

pub returns : goal.returns
returns c = λ p b x h v hx hh hv.
    let l = c.in_ok-state.ensures.later in
    let state = c.in_ok-state.ensures.stands _ hv.state_is in
    let m = c.in_ok-either.ensures.later in
    let either = c.in_ok-either.ensures.stands _ _ _ _ (l _ _ hx) (same_values c.deref.ensures.value (are_later l hv.values_are)) (l _ _ hh) state.heap_is in
    let went = c.in_ok-fact.ensures _ either in
    let k = then_later m went.later in
    run_built l (run_built m (fact_then went (gives (λ n f h. h) (record { value_is = is_reference (k _ _ (l _ _ hx)); state_is = state_later k state }))))
