use Rattle.condition_code.proofs.States.{spot_later}
use Rattle.condition_code.proofs.Walks.{built_then, goes_then}
use Rattle.condition_stores.proofs.Places.{then_later}
use Rattle.condition_stores.proofs.owning.check_open.Goals as goal

pub returns : goal.returns
returns c = λ b x s hb hx hs.
    let l = c.in_ok-open.ensures.later in
    let went = c.in_ok-check.ensures _ (c.in_ok-open.ensures.stands _ _ hs hx) in
    let k = then_later l went.later in
    let m = c.in_ok-free.ensures.later in
    let went2 = c.in_ok-check-2.ensures _ (c.in_ok-free.ensures.stands b x (spot_later k hb) (k _ _ hx)) in
    built_then l (goes_then went (built_then m went2))
