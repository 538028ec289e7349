use Rattle.condition_code.proofs.States.{state_later}
use Rattle.condition_code.proofs.Walks.{gives, run_then, run_built, fact_then}
use Rattle.condition_claims.proofs.sites.list_other.Goals as goal

pub returns : goal.returns
returns c = λ s hs.
    let v = c.in_ok-v.ensures s hs in
    let on = c.in_ok-o.ensures.later in
    let went = c.in_ok-list.ensures _ (c.in_ok-o.ensures.stands _ v.gives.value_is) in
    let state = state_later went.later (state_later on v.gives.state_is) in
    run_then v (run_built on (fact_then went (gives (λ n f h. h) state)))
