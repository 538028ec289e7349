use Rattle.condition_code.proofs.States.{spot_later}
use Rattle.condition_code.proofs.Walks.{built_then, goes_then}
use Rattle.condition_actions.proofs.wrapping.check_changeable.Goals as goal

pub returns : goal.returns
returns c = λ b x s hb hx hs.
    let first = built_then c.in_ok-open.ensures.later (c.in_ok-check.ensures _ (c.in_ok-open.ensures.stands _ _ hs hx)) in
    let may = c.in_ok-may.ensures.stands b x (spot_later first.later hb) (first.later _ _ hx) in
    goes_then first (built_then c.in_ok-may.ensures.later (c.in_ok-check-2.ensures _ may))
