use Rattle.condition_code.proofs.States.{spot_later, state_later}
use Rattle.condition_code.proofs.Walks.{gives, run_built, check_then}
use Rattle.condition_actions.proofs.wrapping.unwrap_object.Goals as goal

pub returns : goal.returns
returns c = λ b x s hb hx hs.
    let on1 = c.in_ok-closed.ensures.later in
    let first = c.in_ok-check.ensures _ (c.in_ok-closed.ensures.stands s x hs hx) in
    let hb1 = spot_later first.later (spot_later on1 hb) in
    let hx1 = first.later _ _ (on1 _ _ hx) in
    let hs1 = state_later first.later (state_later on1 hs) in
    let on2 = c.in_ok-may.ensures.later in
    let second = c.in_ok-check-2.ensures _ (c.in_ok-may.ensures.stands b x hb1 hx1) in
    let hx2 = second.later _ _ (on2 _ _ hx1) in
    let hs2 = state_later second.later (state_later on2 hs1) in
    let on3 = c.in_ok-unclaimed.ensures.later in
    let third = c.in_ok-check-3.ensures _ (c.in_ok-unclaimed.ensures.stands s.heap x hs2.heap_is hx2) in
    let hx3 = third.later _ _ (on3 _ _ hx2) in
    let hs3 = state_later third.later (state_later on3 hs2) in
    let on4 = c.in_ok-open.ensures.later in
    let open' = c.in_ok-open.ensures.stands s.heap x hs3.heap_is hx3 in
    let end = c.with_heap.ensures _ s _ (state_later on4 hs3) open' in
    run_built on1 (check_then first (run_built on2 (check_then second (run_built on3 (check_then third (gives on4 end))))))
