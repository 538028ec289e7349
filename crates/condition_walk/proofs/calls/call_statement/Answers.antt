use Rattle.condition_code.proofs.States.{spot_later, state_later, same_values}
use Rattle.condition_code.proofs.Walks.{run_then}
use Rattle.condition_walk.proofs.Receiving.{receiving_later}
use Rattle.condition_walk.proofs.calls.call_statement.Goals as goal

pub returns : goal.returns
returns c = λ f b s hb hs.
    let moved = c.in_ok-moved.ensures s hs in
    let here = spot_later moved.goes.later hb in
    let place = c.in_ok-place.ensures f b _ here moved.gives in
    let there = spot_later place.goes.later here in
    let args = c.in_ok-args.ensures b _ there (state_later place.goes.later moved.gives) in
    let on = args.goes.later in
    let received = c.in_ok-received.ensures f b _ _ _ (spot_later on there) (same_values c.deref.ensures.value args.gives.all) (receiving_later on place.gives) (state_later on (state_later place.goes.later moved.gives)) in
    run_then moved (run_then place (run_then args received))
