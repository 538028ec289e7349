use Rattle.condition_code.proofs.States.{state_later}
use Rattle.condition_code.proofs.Walks.{gives}
use Rattle.condition_formulas.proofs.Rows.{all_later}
use Rattle.condition_stores.proofs.Walking.{checks_two}
use Rattle.condition_stores.proofs.owning.assign_members.Goals as goal

pub returns : goal.returns
returns c = λ b x qs s hb hx hqs hs.
    let went = c.in_ok-check_open.ensures b x s hb hx hs in
    let k = went.later in
    let l = c.in_ok-heap.ensures.later in
    let heap = c.in_ok-heap.ensures.stands _ _ _ (k _ _ hx) (all_later k hqs) (k _ _ hs.heap_is) in
    checks_two went (gives l (c.with_heap.ensures _ s _ (state_later l (state_later k hs)) heap))
