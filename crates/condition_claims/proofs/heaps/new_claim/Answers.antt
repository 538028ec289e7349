use Rattle.condition_formulas.proofs.Rows.{all_later}
use Rattle.condition_code.proofs.States.{entries_later}
use Rattle.condition_claims.proofs.heaps.new_claim.Goals as goal

pub returns-clause-stands : goal.returns-clause-stands
returns-clause-stands c = λ b d os es h hd hos hes hh.
    let l1 = c.in_ok-shut.ensures.later in
    let l2 = c.in_ok-thread.ensures.later in
    let l3 = c.in_ok-begun.ensures.later in
    let l4 = c.in_ok-listing.ensures.later in
    let shut = l2 _ _ c.in_ok-shut.ensures.stands in
    let claim = l2 _ _ (l1 _ _ hd) in
    let begun = c.in_ok-begun.ensures.stands _ _ _ _ (l2 _ _ (l1 _ _ hh)) claim shut c.in_ok-thread.ensures.stands in
    let listing = c.in_ok-listing.ensures.stands _ _ _ (l3 _ _ claim) (all_later l3 (all_later l2 (all_later l1 hos))) begun in
    c.record_shapes.ensures.stands _ _ _ (l4 _ _ (l3 _ _ claim)) (entries_later l4 (entries_later l3 (entries_later l2 (entries_later l1 hes)))) listing
