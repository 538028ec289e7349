use Rattle.condition_formulas.proofs.Rows.{all_later}
use Rattle.condition_code.proofs.States.{entries_later, spot_later, state_later}
use Rattle.condition_code.proofs.Walks.{run_built}
use Rattle.condition_claims.proofs.Settling.{place_later}
use Rattle.condition_claims.proofs.claims.claim_of_site.Goals as goal

pub returns : goal.returns
returns c = λ b os q s hb hos hq hs.
    let l1 = c.in_ok-entries.ensures.later in
    let l2 = c.in_ok-reference.ensures.later in
    let l3 = c.in_ok-claim.ensures.later in
    let l4 = c.in_ok-fresh.ensures.later in
    let entries = entries_later l4 (entries_later l3 (entries_later l2 (c.in_ok-entries.ensures.stands b s hb hs))) in
    let reference = c.in_ok-reference.ensures.stands s (state_later l1 hs) in
    let claim = c.in_ok-claim.ensures.stands _ reference.value_is in
    let fresh = c.in_ok-fresh.ensures.stands _ (state_later l3 reference.state_is) in
    let objects = all_later l4 (all_later l3 (all_later l2 (all_later l1 hos))) in
    let place = place_later l4 (place_later l3 (place_later l2 (place_later l1 hq))) in
    let heap = l4 _ _ (l3 _ _ (l2 _ _ (l1 _ _ hs.heap_is))) in
    let spot = spot_later l4 (spot_later l3 (spot_later l2 (spot_later l1 hb))) in
    run_built l1 (run_built l2 (run_built l3 (run_built l4 (c.in_ok-value.ensures b _ _ _ _ _ _ spot (record { claim_is = l4 _ _ claim; objects_are = objects; place_is = place; heap_is = heap }) entries fresh))))
