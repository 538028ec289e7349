use Rattle.condition_formulas.proofs.Rows.{all_later, both, more, none, same_ids, then_one}
use Rattle.condition_code.proofs.States.{spot_later}
use Rattle.condition_claims.proofs.claims.may_end.Goals as goal

pub returns-clause-stands : goal.returns-clause-stands
returns-clause-stands c = λ b d os s hb hd hos hs.
    let l1 = c.in_ok-shut.ensures.later in
    let l2 = c.in_ok-allowed.ensures.later in
    let l3 = c.in_ok-typed.ensures.later in
    let l4 = c.in_ok-listing.ensures.later in
    let l5 = c.in_ok-only.ensures.later in
    let l6 = c.in_ok-distinct.ensures.later in
    let d2 = l2 _ _ (l1 _ _ hd) in
    let d3 = l3 _ _ d2 in
    let h3 = l3 _ _ (l2 _ _ (l1 _ _ hs.heap_is)) in
    let os3 = all_later l3 (all_later l2 (all_later l1 hos)) in
    let os4 = all_later l4 os3 in
    let shut = more (c.in_ok-shut.ensures.stands _ _ hs hd) none in
    let allowed = then_one (all_later l2 shut) (c.in_ok-allowed.ensures.stands _ _ (spot_later l1 hb) (l1 _ _ hd)) in
    let typed = then_one (all_later l3 allowed) (c.in_ok-typed.ensures.stands _ d2) in
    let listing = c.in_ok-listing.ensures.stands _ _ _ h3 d3 os3 in
    let only = c.in_ok-only.ensures.stands _ _ _ (l4 _ _ h3) (l4 _ _ d3) os4 in
    let distinct = c.in_ok-distinct.ensures.stands _ (all_later l5 os4) in
    let first = all_later l6 (all_later l5 (all_later l4 typed)) in
    let front = same_ids c.in_ok-tests.ensures (both first (same_ids c.deref.ensures.value (all_later l6 (all_later l5 listing)))) in
    let rest = same_ids c.in_ok-rest.ensures (both (more (l6 _ _ only) none) (same_ids c.deref-2.ensures.value distinct)) in
    c.all_of.ensures.stands _ (same_ids c.deref-4.ensures.value (same_ids c.in_ok-extend_from_slice.ensures.items (both front (same_ids c.deref-3.ensures.value rest))))
