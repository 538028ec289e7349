use Rattle.condition_formulas.proofs.Rows.{same_ids}
use Rattle.condition_formulas.proofs.Symbolics.{is_reference}
use Rattle.condition_code.proofs.States.{entries_later, state_later}
use Rattle.condition_code.proofs.Walks.{gives, run_built, checks_then}
use Rattle.condition_claims.proofs.Settling.{draft_later}
use Rattle.condition_claims.proofs.claims.check_claim.Goals as goal

pub returns : goal.returns
returns c = λ d os q h es s hd hes hs.
    let l1 = c.in_ok-stored.ensures.later in
    let l2 = c.in_ok-conjuncts.ensures.later in
    let l4 = c.in_ok-kept.ensures.later in
    let stored = c.in_ok-stored.ensures.stands _ _ _ hd.place_is (is_reference hd.claim_is) hs.heap_is in
    let conjuncts = c.in_ok-conjuncts.ensures.stands _ _ stored (entries_later l1 hes) in
    let first = c.in_ok-check_each.ensures _ (same_ids c.deref.ensures.value conjuncts) in
    let draft = draft_later first.later (draft_later l2 (draft_later l1 hd)) in
    let kept = c.in_ok-kept.ensures.stands _ _ _ draft.objects_are draft.heap_is (first.later _ _ (l2 _ _ stored)) in
    let second = c.in_ok-check_each-2.ensures _ (same_ids c.deref-2.ensures.value kept) in
    let claim = second.later _ _ (l4 _ _ draft.claim_is) in
    let state = state_later second.later (state_later l4 (state_later first.later (state_later l2 (state_later l1 hs)))) in
    run_built l1 (run_built l2 (checks_then _ first (run_built l4 (checks_then _ second (gives (λ n f g. g) (record { value_is = is_reference claim; state_is = state }))))))
