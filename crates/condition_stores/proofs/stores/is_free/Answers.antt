use Rattle.condition_code.proofs.States.{spot_later}
use Rattle.condition_stores.proofs.stores.is_free.Goals as goal

pub returns-clause-stands : goal.returns-clause-stands
returns-clause-stands c = λ b x hb hx.
    let l = c.in_ok-free.ensures.later in
    c.or_listed.ensures.stands b _ x (spot_later l hb) (c.in_ok-free.ensures.stands b x hb hx) (l _ _ hx)
