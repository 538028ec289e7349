use Rattle.condition_code.proofs.States.{spot_later}
use Rattle.condition_stores.proofs.stores.may_count.Goals as goal

pub returns-clause-stands : goal.returns-clause-stands
returns-clause-stands c = λ b h x hb hh hx.
    let l = c.in_ok-holder.ensures.later in
    let holder = c.in_ok-holder.ensures.stands _ _ hh hx in
    let mine = c.in_ok-mine.ensures.stands b _ _ (spot_later l hb) holder (l _ _ hx) in
    let m = c.in_ok-mine.ensures.later in
    c.or_listed.ensures.stands b _ _ (spot_later m (spot_later l hb)) mine (m _ _ holder)
