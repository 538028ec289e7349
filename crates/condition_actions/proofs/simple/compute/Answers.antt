use Rattle.condition_code.proofs.States.{state_later}
use Rattle.condition_code.proofs.Walks.{gives, run_then}
use Rattle.condition_actions.proofs.simple.compute.Goals as goal

pub returns : goal.returns
returns c = λ b s hb hs.
    let x = c.in_ok-value.ensures b s hb hs in
    run_then x (gives (λ n f h. h) (record { value_is = x.gives; state_is = state_later x.goes.later hs }))
