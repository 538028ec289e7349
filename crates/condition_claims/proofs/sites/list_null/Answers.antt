use Rattle.condition_code.proofs.States.{state_later}
use Rattle.condition_code.proofs.Walks.{gives, run_built, fact_then}
use Rattle.condition_claims.proofs.sites.list_null.Goals as goal

pub returns : goal.returns
returns c = λ s hs.
    let l1 = c.in_ok-v.ensures.later in
    let l2 = c.in_ok-o.ensures.later in
    let l3 = c.in_ok-nothing.ensures.later in
    let l4 = c.in_ok-none.ensures.later in
    let v = c.in_ok-v.ensures.stands s hs in
    let o = l3 _ _ (c.in_ok-o.ensures.stands _ v.value_is) in
    let known = c.in_ok-fact.ensures _ (c.in_ok-none.ensures.stands _ _ o c.in_ok-nothing.ensures.stands) in
    let went = c.in_ok-list.ensures _ (known.later _ _ (l4 _ _ o)) in
    let state = state_later went.later (state_later known.later (state_later l4 (state_later l3 (state_later l2 v.state_is)))) in
    run_built l1 (run_built l2 (run_built l3 (run_built l4 (fact_then known (fact_then went (gives (λ n f h. h) state))))))
