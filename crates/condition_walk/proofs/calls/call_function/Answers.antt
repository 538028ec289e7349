use Rattle.annotation_scenes.proofs.Done.{then_later}
use Rattle.condition_formulas.proofs.Rows.{same_ids, all_later}
use Rattle.condition_formulas.proofs.Symbolics.{are_later}
use Rattle.condition_code.proofs.States.{spot_later, state_later}
use Rattle.condition_code.proofs.Walks.{run_built, checks_then}
use Rattle.condition_walk.proofs.Receiving.{receiving_later}
use Rattle.condition_walk.proofs.calls.call_function.Goals as goal

pub returns : goal.returns
returns c = λ f b fs ws q s hb hfs hws hq hs.
    let required = c.in_ok-required.ensures.stands b _ ws hs.heap_is hws in
    let first = c.in_ok-check_each.ensures _ (same_ids c.deref.ensures.value required) in
    let on = then_later c.in_ok-required.ensures.later first.later in
    let allowed = c.in_ok-allowed.ensures.stands b fs (spot_later on hb) (all_later on hfs) in
    let second = c.in_ok-check_each-2.ensures _ (same_ids c.deref-2.ensures.value allowed) in
    let off = then_later on (then_later c.in_ok-allowed.ensures.later second.later) in
    let received = c.in_ok-received.ensures f b _ fs ws q s (spot_later off hb) (off _ _ hs.heap_is) (all_later off hfs) (are_later off hws) (receiving_later off hq) (state_later off hs) in
    run_built c.in_ok-required.ensures.later (checks_then _ first (run_built c.in_ok-allowed.ensures.later (checks_then _ second received)))
