-- The search for a thread that owns nothing: a heap's objects, in reference order.
use Rattle.std.proofs.Common.{◌≡◌, ◌≢◌, ℕ, ◌+◌, ◌<◌, ◌≤◌, Bool, true, false, not, ◌||◌, List, [], ◌∷◌, ◌⊎◌, inl, inr, refl, sym, ap, subst, ◌∙◌, arith}
use Rattle.std.proofs.lemmas.Bool.{both_ways, cases_lt, or_cases, or_right}
use Rattle.object_types.specs.declared.references.Ref.{Ref}
use Rattle.object_types.specs.declared.records.Stored.{Stored}
use Rattle.object_types.specs.References.{ref, null, thread, same_ref, ref_lt}
use Rattle.object_types.specs.Sets.{is_in, some}
use Rattle.object_types.specs.Heap.{Record, IsFinite, nothing, is_idle, idle_from}
use Rattle.object_types.specs.Content.{IsFirst}
use Rattle.object_types.specs.Lookups.{look_up, IsKept}
use Rattle.object_types.proofs.Orders.{ref_order}
use Rattle.ownership.specs.Ranks.{IsNext}
use Rattle.ownership.proofs.Roots.{step_covers, last_covers, none_before_null}
use Rattle.machine_values.specs.Spots.{heap_at}
use Rattle.machine_objects.specs.Runs.{tries}
use Rattle.machine_ownership.specs.Threads.{NoneIdle}
use Rattle.machine_ownership.proofs.Idle.{least_idle}

module _ (ss : List Stored) (t : ℕ) where
  -- the thread owns q
  abbrev pub is_its : Ref → Bool
  is_its q = same_ref (look_up ss q).owner (thread t)

  nothing_owned : (q : Ref) → look_up ss q ≡ nothing → is_its q ≡ false
  unfolding same_ref
  nothing_owned q e = ap (λ (r : Record). same_ref r.owner (thread t)) e

  stands : (q : Ref) → is_its q ≡ true → look_up ss q ≢ nothing
  stands q w none = both_ways _ (nothing_owned q none) w

  pub none_before : (q : Ref) → ref_lt q null ≡ true → is_its q ≡ false
  none_before q e = absurd (both_ways _ (none_before_null q) e)

  module _ (from o : Ref) (kept : IsKept ss) (first : IsFirst (look_up ss) from o) (other : is_its o ≡ false) (before : (q : Ref) → ref_lt q from ≡ true → is_its q ≡ false) where
    not_these : (q : Ref) → is_its q ≡ true → (ref_lt q from || same_ref q o) ≡ true → ⊥
    not_these q w e =
        elim (or_cases (ref_lt q from) (same_ref q o) e) [
          | inl below ↦ both_ways _ (before q below) w
          | inr here ↦ both_ways _ (subst (λ r. is_its r ≡ false) (sym (ref_order.equal q o here)) other) w
        ]

    pub none_next : (next : Ref) → from.serial < 4294967296 → IsNext o next → (q : Ref) → ref_lt q next ≡ true → is_its q ≡ false
    none_next next fits after q below = by_test (is_its q) refl
      where
        by_test : (b : Bool) → is_its q ≡ b → b ≡ false
        by_test true w = absurd (not_these q w (step_covers ss from o next fits kept first after q (stands q w) ∙ below))
        by_test false w = refl

    pub none_last : o ≡ ref 4294967295 4294967295 → (q : Ref) → is_its q ≡ false
    none_last last q = by_test (is_its q) refl
      where
        by_test : (b : Bool) → is_its q ≡ b → b ≡ false
        by_test true w = absurd (not_these q w (last_covers ss from o kept first last q (stands q w)))
        by_test false w = refl

  pub none_behind : (from : Ref) → ((q : Ref) → ref_lt q from ≡ true → is_its q ≡ false) → ((q : Ref) → ref_lt q from ≡ false → look_up ss q ≡ nothing) → (q : Ref) → is_its q ≡ false
  none_behind from before rest q = by_test (ref_lt q from) refl
    where
      by_test : (b : Bool) → ref_lt q from ≡ b → is_its q ≡ false
      by_test true e = before q e
      by_test false e = nothing_owned q (rest q e)

  none_of : (y : List Ref) → ((q : Ref) → is_its q ≡ false) → some is_its y ≡ false
  none_of [] none = refl
  none_of (q ∷ qs) none = ap (λ b. b || some is_its qs) (none q) ∙ none_of qs none

  pub idle_is : (y : List Ref) → ((q : Ref) → is_its q ≡ false) → true ≡ is_idle (heap_at y ss) t
  idle_is y none = sym (ap not (none_of y none))

  some_of : (o : Ref) (y : List Ref) → is_its o ≡ true → is_in o y ≡ true → some is_its y ≡ true
  unfolding is_in
  some_of o [] its among = absurd (cc)
  some_of o (q ∷ qs) its among =
      elim (or_cases (same_ref o q) (is_in o qs) among) [
        | inl here ↦ ap (λ b. b || some is_its qs) (subst (λ r. is_its r ≡ true) (ref_order.equal o q here) its)
        | inr later ↦ or_right (is_its q) (some is_its qs) (some_of o qs its later)
      ]

  pub busy_is : (o : Ref) (y : List Ref) → is_its o ≡ true → IsFinite (heap_at y ss) → false ≡ is_idle (heap_at y ss) t
  busy_is o y its finite = sym (ap not (some_of o y its (by_test (is_in o y) refl)))
    where
      by_test : (b : Bool) → is_in o y ≡ b → b ≡ true
      by_test true e = refl
      by_test false e = absurd (stands o its (finite o e))

-- The threads that were tried own something.
pub record Tried (ss : List Stored) (from serial : ℕ) : Type 0 where
  pub low : from ≤ serial
  pub busy : (y : List Ref) → IsFinite (heap_at y ss) → (k : ℕ) → from ≤ k → k < serial → is_idle (heap_at y ss) k ≡ false

pub tried_none : (ss : List Stored) (from : ℕ) → Tried ss from from
tried_none ss from = record { low = omega arith; busy = λ y finite k l u. absurd (omega (arith, l, u)) }

module _ (ss : List Stored) (from serial : ℕ) (idle : Bool) (tried : Tried ss from serial) (is : (y : List Ref) → IsFinite (heap_at y ss) → idle ≡ is_idle (heap_at y ss) serial) where
  all_busy : idle ≡ false → (y : List Ref) → IsFinite (heap_at y ss) → (k : ℕ) → from ≤ k → k ≤ serial → is_idle (heap_at y ss) k ≡ false
  all_busy e y finite k l u = by_place (cases_lt k serial)
    where
      by_place : (k < serial) ⊎ (serial ≤ k) → is_idle (heap_at y ss) k ≡ false
      by_place (inl less) = tried.busy y finite k l less
      by_place (inr more) = let same : k ≡ serial = omega (arith, u, more) in subst (λ j. is_idle (heap_at y ss) j ≡ false) (sym same) (sym (is y finite) ∙ e)

  pub tried_next : (next : ℕ) → next ≡ serial + 1 → idle ≡ false → Tried ss from next
  tried_next next e busy = let low = tried.low in record {
    low = omega (arith, e, low);
    busy = λ y finite k l u. all_busy busy y finite k l (omega (arith, e, u));
  }

  pub tried_all : idle ≡ false → 4294967296 ≤ serial + 1 → NoneIdle ss from
  tried_all busy top y finite k l u = all_busy busy y finite k l (omega (arith, top, u))

  pub least_is : idle ≡ true → (y : List Ref) → IsFinite (heap_at y ss) → thread serial ≡ thread (idle_from (tries y) (heap_at y ss) from)
  least_is e y finite = ap thread (sym (least_idle (heap_at y ss) from serial tried.low (tried.busy y finite) (sym (is y finite) ∙ e)))
