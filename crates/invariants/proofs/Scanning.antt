-- A test of all that stands in a heap, in reference order.
use Rattle.std.proofs.Common.{◌≡◌, ◌≢◌, ◌<◌, Bool, true, false, ◌||◌, List, inl, inr, refl, subst, sym, ◌∙◌}
use Rattle.std.proofs.lemmas.Bool.{both_ways, or_cases}
use Rattle.object_types.specs.declared.references.Ref.{Ref}
use Rattle.object_types.specs.declared.records.Stored.{Stored}
use Rattle.object_types.specs.References.{ref, null, same_ref, ref_lt}
use Rattle.object_types.specs.Heap.{nothing}
use Rattle.object_types.specs.Content.{IsFirst}
use Rattle.object_types.specs.Lookups.{look_up, IsKept}
use Rattle.object_types.proofs.Orders.{ref_order}
use Rattle.ownership.specs.Ranks.{IsNext}
use Rattle.ownership.proofs.Roots.{step_covers, last_covers, none_before_null}

-- what stands before `from` fails the test
abbrev pub NoneBefore : (Ref → Bool) → List Stored → Ref → Type 0
NoneBefore test ss from = (q : Ref) → ref_lt q from ≡ true → look_up ss q ≢ nothing → test q ≡ false

pub none_at_start : (test : Ref → Bool) (ss : List Stored) → NoneBefore test ss null
none_at_start test ss q under there = absurd (both_ways _ (none_before_null q) under)

covered : (test : Ref → Bool) (ss : List Stored) (from o q : Ref) → NoneBefore test ss from → test o ≡ false → (ref_lt q from || same_ref q o) ≡ true → look_up ss q ≢ nothing → test q ≡ false
covered test ss from o q none fails among there =
    elim (or_cases (ref_lt q from) (same_ref q o) among) [ inl under ↦ none q under there | inr same ↦ subst (λ r. test r ≡ false) (sym (ref_order.equal q o same)) fails ]

pub none_next : (test : Ref → Bool) (ss : List Stored) (from o next : Ref) → NoneBefore test ss from → test o ≡ false → from.serial < 4294967296 → IsKept ss → IsFirst (look_up ss) from o → IsNext o next → NoneBefore test ss next
none_next test ss from o next none fails fits kept first after q under there = covered test ss from o q none fails (step_covers ss from o next fits kept first after q there ∙ under) there

pub none_last : (test : Ref → Bool) (ss : List Stored) (from o : Ref) → NoneBefore test ss from → test o ≡ false → IsKept ss → IsFirst (look_up ss) from o → o ≡ ref 4294967295 4294967295 → (q : Ref) → look_up ss q ≢ nothing → test q ≡ false
none_last test ss from o none fails kept first last q there = covered test ss from o q none fails (last_covers ss from o kept first last q there) there

pub none_end : (test : Ref → Bool) (ss : List Stored) (from : Ref) → NoneBefore test ss from → ((q : Ref) → ref_lt q from ≡ false → look_up ss q ≡ nothing) → (q : Ref) → look_up ss q ≢ nothing → test q ≡ false
none_end test ss from none following q there = by_test (ref_lt q from) refl
  where
    by_test : (b : Bool) → ref_lt q from ≡ b → test q ≡ false
    by_test true e = none q e there
    by_test false e = absurd (there (following q e))
