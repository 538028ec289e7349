use Rattle.condition_formulas.proofs.Rows.{same_ids}
use Rattle.condition_code.proofs.States.{spot_later, state_later}
use Rattle.condition_code.proofs.Walks.{run_then}
use Rattle.condition_actions.proofs.simple.interlock.Goals as goal

pub returns : goal.returns
returns c = λ b s hb hs.
    let x = c.in_ok-o.ensures b s hb hs in
    let hb1 = spot_later x.goes.later hb in
    let y = c.in_ok-terms.ensures b s hb1 (state_later x.goes.later hs) in
    let hb2 = spot_later y.goes.later hb1 in
    let z = c.in_ok-v.ensures b _ _ s hb2 (y.goes.later _ _ x.gives) (same_ids c.deref.ensures.value y.gives.all) (state_later y.goes.later (state_later x.goes.later hs)) in
    run_then x (run_then y (run_then z (c.in_ok-value.ensures b _ (spot_later z.goes.later hb2) z.gives)))
