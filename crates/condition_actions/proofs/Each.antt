-- Formulas made one by one from the elements of a list, where each element of the code's list is one of the definition's.
use Rattle.std.specs.Prelude.{◌≡◌, ℕ, zero, suc, ◌+◌, ◌<◌, ◌≤◌, List, [], ◌∷◌, ◌++◌, length, map, drop}
use Rattle.std.proofs.Common.{refl, ap, sym, ◌∙◌, subst, get_or, arith}
use Rattle.std.proofs.Math.ListN.{drop_of_length-le}
use Rattle.terms.specs.declared.term.Term.{Term}
use Rattle.terms.specs.Formula.{Formula}
use Rattle.conditions.specs.Annotations as annotation
use Rattle.conditions.specs.Code as spec
use Rattle.condition_formulas.specs.Standing.{StandsAs, StandAll, Each, Later}
use Rattle.annotation_scenes.proofs.Done.{Done, done_first, done_next, done_last}
use Rattle.condition_code.specs.declared.state.Entry.{Entry}
use Rattle.condition_code.specs.declared.state.DeferredObject.{DeferredObject}
use Rattle.condition_code.specs.declared.state.DeferredClaim.{DeferredClaim}
use Rattle.condition_code.specs.States.{IsEntry, EachEntry, AreEntries, IsDeferred, EachDeferred, AreDeferred, IsDeferredClaim, EachDeferredClaim, AreDeferredClaims}

abbrev pub EachOf : {A B : Type 0} → (List Term → A → B → Type 0) → List Term → List A → List B → Type 0
EachOf Is ts [] [] = Unit {0}
EachOf Is ts [] (d ∷ ds) = ⊥
EachOf Is ts (c ∷ cs) [] = ⊥
EachOf Is ts (c ∷ cs) (d ∷ ds) = Is ts c d × EachOf Is ts cs ds

-- one by one
pub record AreOf {A B : Type 0} (Is : List Term → A → B → Type 0) (ts : List Term) (cs : List A) (ds : List B) : Type 0 where
  pub each : EachOf Is ts cs ds

each_id : (ts : List Term) (cs : List ℕ) (ds : List Formula) → Each ts cs ds → EachOf StandsAs ts cs ds
each_id ts [] [] h = tt
each_id ts [] (d ∷ ds) h = absurd h
each_id ts (c ∷ cs) [] h = absurd h
each_id ts (c ∷ cs) (d ∷ ds) h = (h.0, each_id ts cs ds h.1)

pub of_ids : {ts : List Term} {cs : List ℕ} {ds : List Formula} → StandAll ts cs ds → AreOf StandsAs ts cs ds
of_ids {ts} {cs} {ds} all = record { each = each_id ts cs ds all.each }

each_entry : (ts : List Term) (cs : List Entry) (ds : List annotation.Entry) → EachEntry ts cs ds → EachOf IsEntry ts cs ds
each_entry ts [] [] h = tt
each_entry ts [] (d ∷ ds) h = absurd h
each_entry ts (c ∷ cs) [] h = absurd h
each_entry ts (c ∷ cs) (d ∷ ds) h = (h.0, each_entry ts cs ds h.1)

pub of_entries : {ts : List Term} {cs : List Entry} {ds : List annotation.Entry} → AreEntries ts cs ds → AreOf IsEntry ts cs ds
of_entries {ts} {cs} {ds} all = record { each = each_entry ts cs ds all.each }

each_object : (ts : List Term) (cs : List DeferredObject) (ds : List spec.DeferredObject) → EachDeferred ts cs ds → EachOf IsDeferred ts cs ds
each_object ts [] [] h = tt
each_object ts [] (d ∷ ds) h = absurd h
each_object ts (c ∷ cs) [] h = absurd h
each_object ts (c ∷ cs) (d ∷ ds) h = (h.0, each_object ts cs ds h.1)

pub of_objects : {ts : List Term} {cs : List DeferredObject} {ds : List spec.DeferredObject} → AreDeferred ts cs ds → AreOf IsDeferred ts cs ds
of_objects {ts} {cs} {ds} all = record { each = each_object ts cs ds all.each }

each_claim : (ts : List Term) (cs : List DeferredClaim) (ds : List spec.DeferredClaim) → EachDeferredClaim ts cs ds → EachOf IsDeferredClaim ts cs ds
each_claim ts [] [] h = tt
each_claim ts [] (d ∷ ds) h = absurd h
each_claim ts (c ∷ cs) [] h = absurd h
each_claim ts (c ∷ cs) (d ∷ ds) h = (h.0, each_claim ts cs ds h.1)

pub of_claims : {ts : List Term} {cs : List DeferredClaim} {ds : List spec.DeferredClaim} → AreDeferredClaims ts cs ds → AreOf IsDeferredClaim ts cs ds
of_claims {ts} {cs} {ds} all = record { each = each_claim ts cs ds all.each }

each_long : {A B : Type 0} (Is : List Term → A → B → Type 0) (ts : List Term) (cs : List A) (ds : List B) → EachOf Is ts cs ds → length cs ≡ length ds
each_long Is ts [] [] each = refl
each_long Is ts [] (d ∷ ds) each = absurd each
each_long Is ts (c ∷ cs) [] each = absurd each
each_long Is ts (c ∷ cs) (d ∷ ds) each = ap suc (each_long Is ts cs ds each.1)

each_at : {A B : Type 0} (Is : List Term → A → B → Type 0) (ts : List Term) (cs : List A) (ds : List B) (i : ℕ) (e : A) → EachOf Is ts cs ds → i < length cs → (d : B) × (drop i ds ≡ d ∷ drop (suc i) ds) × Is ts (get_or cs i e) d
each_at Is ts [] ds i e each below = absurd (omega arith)
each_at Is ts (c ∷ cs) [] i e each below = absurd each
each_at Is ts (c ∷ cs) (d ∷ ds) zero e each below = (d, refl, each.0)
each_at Is ts (c ∷ cs) (d ∷ ds) (suc i) e each below = each_at Is ts cs ds i e each.1 (omega arith)

-- what a loop keeps that makes a formula of each, where a fact is known
pub record Makes {S A B : Type 0} (Known : S → Type 0) (Is : List Term → A → B → Type 0) (by : S → B → Formula) (old new : List Term) (cs : List A) (made : List ℕ) (i : ℕ) : Type 0 where
  pub later : Later old new
  pub goes : (s : S) → Known s → (ds : List B) → AreOf Is old cs ds → Done new made (map (by s) (drop i ds)) (map (by s) ds)

pub makes_none : {S A B : Type 0} (Known : S → Type 0) (Is : List Term → A → B → Type 0) (by : S → B → Formula) (ts : List Term) (cs : List A) (made : List ℕ) → made ≡ [] → Makes Known Is by ts ts cs made 0
makes_none Known Is by ts cs made none = record {
  later = λ n f h. h;
  goes = λ s known ds are. subst (λ (ids : List ℕ). Done ts ids (map (by s) ds) (map (by s) ds)) (sym none) (done_first ts (map (by s) ds));
}

pub makes_one : {S A B : Type 0} (Known : S → Type 0) (Is : List Term → A → B → Type 0) (by : S → B → Formula) {old mid new : List Term} {cs : List A} {made next : List ℕ} {i id : ℕ} (c e : A) → c ≡ get_or cs i e → Makes Known Is by old mid cs made i → i < length cs → Later mid new → ((s : S) → Known s → (d : B) → Is old c d → StandsAs new id (by s d)) → next ≡ made ++ id ∷ [] → Makes Known Is by old new cs next (i + 1)
makes_one {B = B} Known Is by {old} {mid} {new} {cs} {made} {next} {i} {id} c e item so_far below later one more = record {
  later = λ n f h. later n f (so_far.later n f h);
  goes = λ s known ds are.
      let here = each_at Is old cs ds i e are.each below in
      let step : suc i ≡ i + 1 = omega arith in
      let front : drop i ds ≡ here.0 ∷ drop (i + 1) ds = here.1 ∙ ap (λ (j : ℕ). here.0 ∷ drop j ds) step in
      done_next (so_far.goes s known ds are) (ap (map (by s)) front) later (one s known here.0 (subst (λ x. Is old x here.0) (sym item) here.2)) more;
}

pub makes_all : {S A B : Type 0} {Known : S → Type 0} {Is : List Term → A → B → Type 0} {by : S → B → Formula} {old new : List Term} {cs : List A} {made : List ℕ} {i : ℕ} → Makes Known Is by old new cs made i → length cs ≤ i → (s : S) → Known s → (ds : List B) → AreOf Is old cs ds → StandAll new made (map (by s) ds)
makes_all {Is = Is} {by = by} {old = old} {cs = cs} {i = i} so_far above s known ds are =
    let long = each_long Is old cs ds are.each in
    let gone : drop i ds ≡ [] = drop_of_length-le ds (omega (arith, long, above)) in
    done_last (so_far.goes s known ds are) (ap (map (by s)) gone)

-- The same lists, by what a vector is read as.

pub same_entries : {ts : List Term} {cs us : List Entry} {es : List annotation.Entry} → us ≡ cs → AreEntries ts cs es → AreEntries ts us es
same_entries {ts} {es = es} e are = subst (λ (ks : List Entry). AreEntries ts ks es) (sym e) are

pub same_objects : {ts : List Term} {cs us : List DeferredObject} {ds : List spec.DeferredObject} → us ≡ cs → AreDeferred ts cs ds → AreDeferred ts us ds
same_objects {ts} {ds = ds} e are = subst (λ (ks : List DeferredObject). AreDeferred ts ks ds) (sym e) are

pub same_claims : {ts : List Term} {cs us : List DeferredClaim} {ds : List spec.DeferredClaim} → us ≡ cs → AreDeferredClaims ts cs ds → AreDeferredClaims ts us ds
same_claims {ts} {ds = ds} e are = subst (λ (ks : List DeferredClaim). AreDeferredClaims ts ks ds) (sym e) are
