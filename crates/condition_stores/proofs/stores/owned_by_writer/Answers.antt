use Rattle.condition_code.proofs.States.{spot_later}
use Rattle.condition_stores.proofs.stores.owned_by_writer.Goals as goal

pub returns-clause-stands : goal.returns-clause-stands
returns-clause-stands c = λ b t x hb ht hx.
    let l = c.in_ok-thread.ensures.later in
    let mine = c.in_ok-mine.ensures.stands _ _ (l _ _ ht) c.in_ok-thread.ensures.stands in
    let m = c.in_ok-mine.ensures.later in
    let free = c.in_ok-free.ensures.stands b x (spot_later m (spot_later l hb)) (m _ _ (l _ _ hx)) in
    c.and.ensures.stands _ _ (c.in_ok-free.ensures.later _ _ mine) free
