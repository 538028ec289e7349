use Rattle.condition_formulas.proofs.Rows.{same_ids}
use Rattle.condition_code.proofs.States.{spot_later, state_later}
use Rattle.condition_code.proofs.Walks.{run_then}
use Rattle.condition_actions.proofs.simple.change_owned.Goals as goal

pub returns : goal.returns
returns c = λ b s hb hs.
    let x = c.in_ok-o.ensures b s hb hs in
    let hb1 = spot_later x.goes.later hb in
    let hs1 = state_later x.goes.later hs in
    let y = c.in_ok-terms.ensures b s hb1 hs1 in
    run_then x (run_then y (c.in_ok-state.ensures b _ _ s (spot_later y.goes.later hb1) (y.goes.later _ _ x.gives) (same_ids c.deref.ensures.value y.gives.all) (state_later y.goes.later hs1)))
