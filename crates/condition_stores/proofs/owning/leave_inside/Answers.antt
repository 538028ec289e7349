use Rattle.condition_code.proofs.States.{state_later}
use Rattle.condition_code.proofs.Walks.{check_then, gives, run_built}
use Rattle.condition_stores.proofs.Places.{then_later}
use Rattle.condition_stores.proofs.owning.leave_inside.Goals as goal

pub returns : goal.returns
returns c = λ b x y s hb hx hy hs.
    let l = c.in_ok-among.ensures.later in
    let went = c.in_ok-check.ensures _ (c.in_ok-among.ensures.stands b x hb hx) in
    let k = then_later l went.later in
    let m = c.in_ok-held.ensures.later in
    let went2 = c.in_ok-check-2.ensures _ (c.in_ok-held.ensures.stands _ _ _ (k _ _ hs.heap_is) (k _ _ hx) (k _ _ hy)) in
    let j = then_later k (then_later m went2.later) in
    let n = c.in_ok-heap.ensures.later in
    let heap = c.in_ok-heap.ensures.stands _ _ _ (j _ _ hs.heap_is) (j _ _ hx) (j _ _ hy) in
    let state = c.with_heap.ensures _ s _ (state_later n (state_later j hs)) heap in
    run_built l (check_then went (run_built m (check_then went2 (gives n state))))
