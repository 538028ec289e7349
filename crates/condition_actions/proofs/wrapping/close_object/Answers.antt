use Rattle.condition_code.proofs.States.{spot_later, state_later}
use Rattle.condition_code.proofs.Walks.{gives, run_built, check_then}
use Rattle.condition_actions.proofs.Runs.{path_then}
use Rattle.condition_actions.proofs.wrapping.close_object.Goals as goal

pub returns : goal.returns
returns c = λ b y x s hb hy hx hs.
    let first = c.in_ok-check_changeable.ensures b x s hb hx hs in
    let hy1 = first.later _ _ hy in
    let hx1 = first.later _ _ hx in
    let hs1 = state_later first.later hs in
    let on = c.in_ok-members.ensures.later in
    let second = c.in_ok-check.ensures _ (c.in_ok-members.ensures.stands b y x s.heap (spot_later first.later hb) hy1 hx1 hs1.heap_is) in
    let hy2 = second.later _ _ (on _ _ hy1) in
    let hx2 = second.later _ _ (on _ _ hx1) in
    let hs2 = state_later second.later (state_later on hs1) in
    let closed = c.in_ok-closed.ensures.stands y x hy2 hx2 in
    let shut = c.in_ok-closed.ensures.later in
    let holds = c.in_ok-holds.ensures.stands x s.heap _ (shut _ _ hx2) (shut _ _ hs2.heap_is) closed in
    let held = c.in_ok-holds.ensures.later in
    let third = c.in_ok-check-2.ensures _ holds in
    let hs3 = state_later third.later (state_later held (state_later shut hs2)) in
    let end = c.with_heap.ensures _ s _ hs3 (third.later _ _ (held _ _ closed)) in
    path_then first (run_built on (check_then second (run_built shut (run_built held (check_then third (gives (λ n f h. h) end))))))
