use Rattle.condition_formulas.proofs.Rows.{both, more, none, all_later, same_ids}
use Rattle.condition_code.proofs.States.{spot_later, state_later}
use Rattle.condition_code.proofs.access.readable.Goals as goal

pub returns-clause-stands : goal.returns-clause-stands
returns-clause-stands c = λ b s x hb hs hx.
    let open' = c.in_ok-open.ensures.stands _ _ hs hx in
    let steady = c.in_ok-steady.ensures.stands _ _ (state_later c.in_ok-open.ensures.later hs) (c.in_ok-open.ensures.later _ _ hx) in
    let spot = spot_later c.in_ok-steady.ensures.later (spot_later c.in_ok-open.ensures.later hb) in
    let listed = c.in_ok-listed.ensures.stands _ _ spot (c.in_ok-steady.ensures.later _ _ (c.in_ok-open.ensures.later _ _ hx)) in
    let first = c.in_ok-listed.ensures.later _ _ (c.in_ok-steady.ensures.later _ _ open') in
    let front = same_ids c.in_ok-ways.ensures (both (more first none) (same_ids c.deref.ensures.value (all_later c.in_ok-listed.ensures.later steady))) in
    c.any_of.ensures.stands _ (same_ids c.deref-3.ensures.value (same_ids c.in_ok-extend_from_slice.ensures.items (both front (same_ids c.deref-2.ensures.value listed))))
