use Rattle.condition_formulas.proofs.Rows.{more, none}
use Rattle.condition_claims.proofs.heaps.with_count.Goals as goal

pub returns-clause-stands : goal.returns-clause-stands
returns-clause-stands c = λ x h hx hh.
    let l1 = c.in_ok-claims.ensures.later in
    let l2 = c.in_ok-one.ensures.later in
    let l3 = c.in_ok-changed.ensures.later in
    let claims = l2 _ _ (c.in_ok-claims.ensures.stands _ _ hh hx) in
    let changed = c.in_ok-changed.ensures.stands _ (more claims (more c.in_ok-one.ensures.stands none)) in
    c.set.ensures.stands _ _ _ (l3 _ _ (l2 _ _ (l1 _ _ hh))) (more (l3 _ _ (l2 _ _ (l1 _ _ hx))) none) changed
