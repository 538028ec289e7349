use Rattle.condition_code.proofs.States.{state_later}
use Rattle.condition_code.proofs.Walks.{gives, run_then, run_built, fact_then}
use Rattle.condition_claims.proofs.sites.list_variable.Goals as goal

pub returns : goal.returns
returns c = λ s hs.
    let value = c.in_ok-value.ensures s hs in
    let on = c.in_ok-o.ensures.later in
    let went = c.in_ok-list.ensures _ (c.in_ok-o.ensures.stands _ value.gives) in
    let state = state_later went.later (state_later on (state_later value.goes.later hs)) in
    run_then value (run_built on (fact_then went (gives (λ n f h. h) state)))
