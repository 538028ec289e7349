use Rattle.condition_code.proofs.States.{spot_later}
use Rattle.condition_formulas.proofs.Rows.{both, more, none, same_ids}
use Rattle.condition_stores.proofs.stores.is_changeable.Goals as goal

pub returns-clause-stands : goal.returns-clause-stands
returns-clause-stands c = λ b s x hb hs hx.
    let l = c.in_ok-open.ensures.later in
    let open' = c.in_ok-open.ensures.stands s x hs hx in
    let change = c.in_ok-change.ensures.stands b x s.heap (spot_later l hb) (l _ _ hx) (l _ _ hs.heap_is) in
    let ways = both (more (c.in_ok-change.ensures.later _ _ open') none) (same_ids c.deref.ensures.value change) in
    c.any_of.ensures.stands _ (same_ids c.deref-2.ensures.value (same_ids c.in_ok-ways.ensures ways))
