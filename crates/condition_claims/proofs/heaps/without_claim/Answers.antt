use Rattle.condition_formulas.proofs.Rows.{all_later}
use Rattle.condition_claims.proofs.heaps.without_claim.Goals as goal

pub returns-clause-stands : goal.returns-clause-stands
returns-clause-stands c = λ d os h hd hos hh.
    let l1 = c.in_ok-gone.ensures.later in
    let l2 = c.in_ok-nobody.ensures.later in
    let l3 = c.in_ok-freed.ensures.later in
    let freed = c.in_ok-freed.ensures.stands _ _ _ _ (l2 _ _ (l1 _ _ hh)) (l2 _ _ (l1 _ _ hd)) (l2 _ _ c.in_ok-gone.ensures.stands) c.in_ok-nobody.ensures.stands in
    c.change_counts.ensures.stands _ _ (all_later l3 (all_later l2 (all_later l1 hos))) freed
