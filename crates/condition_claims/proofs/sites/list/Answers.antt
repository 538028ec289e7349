use Rattle.condition_code.proofs.Walks.{built_then}
use Rattle.condition_claims.proofs.sites.list.Goals as goal

pub returns : goal.returns
returns c = λ x hx.
    let l1 = c.in_ok-before.ensures.later in
    let l2 = c.in_ok-claim.ensures.later in
    let listing = c.in_ok-listing.ensures.stands _ _ _ (l2 _ _ c.in_ok-before.ensures.stands) c.in_ok-claim.ensures.stands (l2 _ _ (l1 _ _ hx)) in
    built_then l1 (built_then l2 (built_then c.in_ok-listing.ensures.later (c.in_ok-fact.ensures _ listing)))
