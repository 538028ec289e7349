use Rattle.condition_code.proofs.States.{spot_later}
use Rattle.condition_actions.proofs.threads.is_passable.Goals as goal

pub returns-clause-stands : goal.returns-clause-stands
returns-clause-stands c = λ b s x hb hs hx.
    let on = c.in_ok-owned.ensures.later in
    let owned = c.in_ok-owned.ensures.stands s x hs hx in
    let may = c.in_ok-may.ensures.stands b x (spot_later on hb) (on _ _ hx) in
    c.and.ensures.stands _ _ (c.in_ok-may.ensures.later _ _ owned) may
