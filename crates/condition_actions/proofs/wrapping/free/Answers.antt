use Rattle.condition_code.proofs.States.{state_later}
use Rattle.condition_code.proofs.Walks.{gives}
use Rattle.condition_actions.proofs.Runs.{path_then}
use Rattle.condition_actions.proofs.wrapping.free.Goals as goal

pub returns : goal.returns
returns c = λ b x s hb hx hs.
    let first = c.in_ok-check_changeable.ensures b x s hb hx hs in
    let hs1 = state_later first.later hs in
    let on = c.in_ok-freed.ensures.later in
    let freed = c.in_ok-freed.ensures.stands s.heap x hs1.heap_is (first.later _ _ hx) in
    path_then first (gives on (c.with_heap.ensures _ s _ (state_later on hs1) freed))
