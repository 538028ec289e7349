use Rattle.condition_code.proofs.States.{spot_later}
use Rattle.condition_formulas.proofs.Rows.{given_ids, more, none}
use Rattle.condition_stores.proofs.stores.approved_change.Goals as goal

pub returns-clause-stands : goal.returns-clause-stands
returns-clause-stands c = λ b h x hb hh hx.
    let l = c.in_ok-open.ensures.later in
    let inside = c.in_ok-open.ensures.stands b x hb hx in
    let part = c.in_ok-part.ensures.stands b h x (spot_later l hb) (l _ _ hh) (l _ _ hx) in
    let whole = c.in_ok-both.ensures.stands _ _ (c.in_ok-part.ensures.later _ _ inside) part in
    given_ids c.listed.result c.listed.ensures (more whole none)
