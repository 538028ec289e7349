use Rattle.condition_formulas.proofs.Rows.{all_later, same_ids}
use Rattle.condition_code.proofs.States.{spot_later, state_later}
use Rattle.condition_code.proofs.Walks.{run_built, check_then, checks_then}
use Rattle.condition_claims.proofs.claims.end_claim.Goals as goal

pub returns : goal.returns
returns c = λ b d os s hb hd hos hs.
    let l1 = c.in_ok-may.ensures.later in
    let first = c.in_ok-check.ensures _ (c.in_ok-may.ensures.stands _ _ _ _ hb hd hos hs) in
    let l2 = first.later in
    let l3 = c.in_ok-counts.ensures.later in
    let s2 = state_later l2 (state_later l1 hs) in
    let b2 = spot_later l2 (spot_later l1 hb) in
    let os2 = all_later l2 (all_later l1 hos) in
    let counts = c.in_ok-counts.ensures.stands _ _ _ b2 s2.heap_is os2 in
    let second = c.in_ok-check_each.ensures _ (same_ids c.deref.ensures.value counts) in
    let l4 = second.later in
    let l5 = c.in_ok-heap.ensures.later in
    let s4 = state_later l4 (state_later l3 s2) in
    let os4 = all_later l4 (all_later l3 os2) in
    let claim = l4 _ _ (l3 _ _ (l2 _ _ (l1 _ _ hd))) in
    let heap = c.in_ok-heap.ensures.stands _ _ _ claim os4 s4.heap_is in
    let end = c.in_ok-value.ensures b _ _ s (spot_later l5 (spot_later l4 (spot_later l3 b2))) (all_later l5 os4) heap (state_later l5 s4) in
    run_built l1 (check_then first (run_built l3 (checks_then _ second (run_built l5 end))))
