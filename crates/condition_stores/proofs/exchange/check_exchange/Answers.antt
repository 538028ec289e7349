use Rattle.condition_code.proofs.Walks.{built_then, goes_then}
use Rattle.condition_formulas.proofs.Rows.{same_ids}
use Rattle.condition_stores.proofs.exchange.check_exchange.Goals as goal

pub returns : goal.returns
returns c = λ b x y s hb hx hy hs.
    let l = c.in_ok-allowed.ensures.later in
    let went = c.in_ok-check.ensures _ (c.in_ok-allowed.ensures.stands _ _ _ hb hs hx) in
    let checks = c.in_ok-checks.ensures.stands _ (went.later _ _ (l _ _ hy)) in
    let went2 = c.in_ok-check_each.ensures _ (same_ids c.deref.ensures.value checks) in
    built_then l (goes_then went (built_then c.in_ok-checks.ensures.later went2))
