use Rattle.condition_code.proofs.States.{state_later}
use Rattle.condition_code.proofs.Walks.{gives, run_built, check_then}
use Rattle.condition_actions.proofs.actions.assert_spec.Goals as goal

pub returns : goal.returns
returns c = λ b s hb hs.
    let on = c.in_ok-holds.ensures.later in
    let went = c.in_ok-check.ensures _ (c.in_ok-holds.ensures.stands b s hb hs) in
    run_built on (check_then went (gives (λ n f h. h) (state_later went.later (state_later on hs))))
