use Rattle.condition_code.proofs.States.{spot_later}
use Rattle.condition_stores.proofs.owning.may_join.Goals as goal

pub returns-clause-stands : goal.returns-clause-stands
returns-clause-stands c = λ b s y hb hs hy.
    let l = c.in_ok-shut.ensures.later in
    let shut = c.in_ok-shut.ensures.stands _ _ hs hy in
    let free = c.in_ok-free.ensures.stands b y (spot_later l hb) (l _ _ hy) in
    c.and.ensures.stands _ _ (c.in_ok-free.ensures.later _ _ shut) free
