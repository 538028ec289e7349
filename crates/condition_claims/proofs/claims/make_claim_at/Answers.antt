use Rattle.std.specs.Prelude.{List}
use Rattle.std.proofs.Common.{subst}
use Rattle.method.specs.declared.program.Claimed.{Claimed}
use Rattle.conditions.specs.Actions.{claimed_terms}
use Rattle.condition_code.specs.Walks.{AreIds, Ran}
use Rattle.condition_formulas.proofs.Rows.{all_later, same_ids}
use Rattle.condition_code.proofs.States.{spot_later, state_later}
use Rattle.condition_code.proofs.Walks.{run_then, run_built, checks_then, standalone_then}
use Rattle.condition_claims.proofs.Settling.{place_later}
use Rattle.condition_claims.proofs.Noted.{adds_then}
use Rattle.condition_claims.proofs.claims.make_claim_at.Goals as goal

pub returns : goal.returns
returns c = λ b q s hb hq hs.
    let p = c.args.a.now.program.now in
    let objects = subst (λ (cs : List Claimed). Ran AreIds c.args.walk.now c.claimed_terms.new.walk c.in_ok-objects.objects (claimed_terms p b cs s)) c.deref.ensures.value (c.in_ok-objects.ensures b s hb hs) in
    let l1 = objects.goes.later in
    let l2 = c.in_ok-tests.ensures.later in
    let tests = c.in_ok-tests.ensures.stands _ _ _ (spot_later l1 hb) (l1 _ _ hs.heap_is) (same_ids c.deref-2.ensures.value objects.gives.all) in
    let went = c.in_ok-check_each.ensures _ (same_ids c.deref-3.ensures.value tests) in
    let stable = c.in_ok-stable.ensures in
    let alone = c.in_ok-standalone.ensures _ stable.stands in
    let l3 = went.later in
    let l4 = stable.later in
    let l5 = alone.later in
    let spot = spot_later l5 (spot_later l4 (spot_later l3 (spot_later l2 (spot_later l1 hb)))) in
    let place = place_later l5 (place_later l4 (place_later l3 (place_later l2 (place_later l1 hq)))) in
    let state = state_later l5 (state_later l4 (state_later l3 (state_later l2 (state_later l1 hs)))) in
    let ids = all_later l5 (all_later l4 (all_later l3 (all_later l2 objects.gives.all))) in
    run_then objects (run_built l2 (checks_then _ went (adds_then stable (standalone_then alone (c.in_ok-value.ensures b _ q s spot (same_ids c.deref-4.ensures.value ids) place state)))))
