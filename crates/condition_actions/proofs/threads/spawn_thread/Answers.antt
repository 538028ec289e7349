use Rattle.condition_code.proofs.States.{spot_later, state_later, same_values}
use Rattle.condition_code.proofs.Walks.{run_then}
use Rattle.condition_actions.proofs.threads.spawn_thread.Goals as goal

pub returns : goal.returns
returns c = λ b s hb hs.
    let x = c.in_ok-args.ensures b s hb hs in
    run_then x (c.in_ok-state.ensures b _ s (spot_later x.goes.later hb) (same_values c.deref.ensures.value x.gives.all) (state_later x.goes.later hs))
