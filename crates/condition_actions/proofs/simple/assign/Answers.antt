use Rattle.condition_code.proofs.States.{spot_later, state_later}
use Rattle.condition_code.proofs.Walks.{run_then}
use Rattle.condition_actions.proofs.Kept.{place_later}
use Rattle.condition_actions.proofs.simple.assign.Goals as goal

pub returns : goal.returns
returns c = λ b s hb hs.
    let x = c.in_ok-place.ensures b s hb hs in
    let hb1 = spot_later x.goes.later hb in
    let y = c.in_ok-v.ensures b _ s hb1 x.gives (state_later x.goes.later hs) in
    run_then x (run_then y (c.in_ok-state.ensures b _ _ _ (spot_later y.goes.later hb1) (place_later y.goes.later x.gives) y.gives.value_is y.gives.state_is))
