use Rattle.condition_code.proofs.States.{spot_later, state_later}
use Rattle.condition_code.proofs.Walks.{check_then, gives, run_built}
use Rattle.condition_formulas.proofs.Symbolics.{symbolic_later}
use Rattle.condition_stores.proofs.Places.{in_field, then_later}
use Rattle.condition_stores.proofs.stores.store_field.Goals as goal

pub returns : goal.returns
returns c = λ b x w s hb hx hw hs.
    let l = c.in_ok-change.ensures.later in
    let went = c.in_ok-check.ensures _ (c.in_ok-change.ensures.stands b s x hb hs hx) in
    let k = then_later l went.later in
    let m = c.in_ok-free.ensures.later in
    let went2 = c.in_ok-check-2.ensures _ (c.in_ok-free.ensures.stands b x (spot_later k hb) (k _ _ hx)) in
    let j = then_later k (then_later m went2.later) in
    let n = c.in_ok-heap.ensures.later in
    let heap = c.in_ok-heap.ensures.stands _ w s.heap (in_field (j _ _ hx)) (symbolic_later j hw) (j _ _ hs.heap_is) in
    let state = c.with_heap.ensures _ s _ (state_later n (state_later j hs)) heap in
    run_built l (check_then went (run_built m (check_then went2 (gives n state))))
