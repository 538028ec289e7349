use Rattle.condition_formulas.proofs.Rows.{same_ids}
use Rattle.condition_formulas.proofs.Symbolics.{are_later}
use Rattle.condition_code.proofs.States.{spot_later, state_later}
use Rattle.condition_code.proofs.Walks.{run_built}
use Rattle.condition_walk.proofs.Receiving.{receiving_later}
use Rattle.condition_walk.proofs.calls.call_known.Goals as goal

pub returns : goal.returns
returns c = λ f b ws q s hb hws hq hs.
    let on = c.in_ok-items.ensures.later in
    let items = same_ids c.deref.ensures.value (c.in_ok-items.ensures.stands b _ ws hs.heap_is hws) in
    run_built on (c.in_ok-received.ensures f b _ ws q s (spot_later on hb) items (are_later on hws) (receiving_later on hq) (state_later on hs))
