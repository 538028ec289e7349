-- The roots of a stable set are found in reference order.
use Rattle.std.proofs.Common.{◌≡◌, ◌≢◌, ◌+◌, ◌-◌, ◌<◌, ◌≤◌, ◌^◌, ◌⊎◌, inl, inr, Bool, true, false, cond, ◌&&◌, ◌||◌, ◌==◌, List, [], ◌∷◌, Some, refl, sym, ap, subst, ◌∙◌, arith}
use Rattle.std.specs.Prelude.{nat_lt}
use Rattle.std.specs.List.{find}
use Rattle.std.proofs.lemmas.Bool.{both_ways, cases_lt, or_cases, or_parts, and_parts, eqb-true, ltb-true, ltb-false, le-ltb, eq-eqb}
use Rattle.object_types.specs.declared.references.Ref.{Ref}
use Rattle.object_types.specs.declared.records.Stored.{Stored}
use Rattle.object_types.specs.References.{ref, null, same_ref, ref_lt}
use Rattle.object_types.specs.Sets.{every}
use Rattle.object_types.specs.Heap.{Heap, Record, nothing, is_closed, wrapped}
use Rattle.object_types.specs.Content.{IsFirst}
use Rattle.object_types.specs.Lookups.{record_or_nothing, look_up, heap_of, is_tidy, IsKept}
use Rattle.object_types.proofs.Orders.{ref_order}
use Rattle.ownership.specs.Ranks.{rank, IsNext}

pub rank_below : (a b : Ref) → a.serial < 4294967296 → ref_lt a b ≡ true → rank a < rank b
rank_below a b fits h =
    elim (or_cases (nat_lt a.ty b.ty) ((a.ty == b.ty) && nat_lt a.serial b.serial) h) [
      | inl lower ↦ (let l : a.ty < b.ty = ltb-true _ _ lower in omega arith)
      | inr later ↦
          let parts = and_parts (a.ty == b.ty) (nat_lt a.serial b.serial) later in
          (let e : a.ty ≡ b.ty = eqb-true _ _ parts.0 in let l : a.serial < b.serial = ltb-true _ _ parts.1 in omega arith)
    ]

pub below_by_rank : (a b : Ref) → b.serial < 4294967296 → rank a < rank b → ref_lt a b ≡ true
below_by_rank a b fits h = by_test (ref_lt a b) refl
  where
    by_test : (x : Bool) → ref_lt a b ≡ x → x ≡ true
    by_test true e = refl
    by_test false e =
        let parts = or_parts (nat_lt a.ty b.ty) ((a.ty == b.ty) && nat_lt a.serial b.serial) e in
        let higher : b.ty ≤ a.ty = ltb-false _ _ parts.0 in
        elim (cases_lt b.ty a.ty) [
          | inl less ↦ (let l : b.ty < a.ty = less in absurd (omega arith))
          | inr other ↦
              let same : a.ty ≡ b.ty = omega arith in
              let later : nat_lt a.serial b.serial ≡ false = rw (eq-eqb a.ty b.ty same) at parts.1 in
              (let l : b.serial ≤ a.serial = ltb-false _ _ later in absurd (omega arith))
        ]

-- two words of 32 bits write the reference
pub record IsWritten (q : Ref) : Type 0 where
  pub serial : q.serial < 4294967296
  pub ty : q.ty < 4294967296

-- what stands in a heap of the code is written so
pub stands_within : (ss : List Stored) (q : Ref) → every is_tidy ss ≡ true → (look_up ss q ≡ nothing) ⊎ IsWritten q
stands_within [] q h = inl refl
stands_within (s ∷ ss) q h =
    let parts = and_parts (is_tidy s) (every is_tidy ss) h in
    by_test (same_ref q s.reference) refl (stands_within ss q parts.1) parts.0
  where
    by_test : (b : Bool) → same_ref q s.reference ≡ b → (look_up ss q ≡ nothing) ⊎ IsWritten q → is_tidy s ≡ true → (record_or_nothing (cond b (Some s) (find (λ t. same_ref q t.reference) ss)) ≡ nothing) ⊎ IsWritten q
    by_test true e rest tidy =
        let q_is = ref_order.equal q s.reference e in
        let first = and_parts (nat_lt s.reference.serial (2 ^ 32)) _ tidy in
        let second = and_parts (nat_lt s.reference.ty (2 ^ 32)) _ first.1 in
        inr (subst IsWritten (sym q_is) (record { serial = ltb-true _ _ first.0; ty = ltb-true _ _ second.0 }))
    by_test false e rest tidy = rest

-- nothing is closed where nothing stands
pub nothing_wrapped : (ss : List Stored) (t q : Ref) → look_up ss q ≡ nothing → wrapped t (heap_of ss) q ≡ false
nothing_wrapped ss t q e = ap (λ (r : Record). is_closed r.mode && same_ref r.owner t) e

-- what is closed stands
wrapped_stands : (ss : List Stored) (t q : Ref) → wrapped t (heap_of ss) q ≡ true → look_up ss q ≢ nothing
wrapped_stands ss t q w none = both_ways _ (nothing_wrapped ss t q none) w

written : (ss : List Stored) (q : Ref) → IsKept ss → look_up ss q ≢ nothing → IsWritten q
written ss q kept there = elim (stands_within ss q kept.tidy) [ inl none ↦ absurd (there none) | inr fits ↦ fits ]

-- the first that stands isn't before where the search began
pub first_rank : (from o : Ref) → from.serial < 4294967296 → ref_lt o from ≡ false → rank from ≤ rank o
first_rank from o fits h =
    elim (cases_lt (rank o) (rank from)) [
      | inl less ↦ absurd (both_ways _ h (below_by_rank o from fits less))
      | inr other ↦ other
    ]

-- of what stands, the next reference is behind what the one is behind, and the one itself
pub step_covers : (ss : List Stored) (from o next : Ref) → from.serial < 4294967296 → IsKept ss → IsFirst (look_up ss) from o → IsNext o next → (q : Ref) → look_up ss q ≢ nothing → (ref_lt q from || same_ref q o) ≡ ref_lt q next
step_covers ss from o next fits kept first after q there =
    by_tests (ref_lt q from) (same_ref q o) (ref_lt q o) refl refl refl
  where
    q_fits : q.serial < 4294967296
    q_fits = (written ss q kept there).serial

    o_fits : o.serial < 4294967296
    o_fits = (written ss o kept first.something).serial

    step : rank next ≡ rank o + 1
    step = after.next

    start : rank from ≤ rank o
    start = first_rank from o fits first.at_or_above

    by_tests : (a b c : Bool) → ref_lt q from ≡ a → same_ref q o ≡ b → ref_lt q o ≡ c → (a || b) ≡ ref_lt q next
    by_tests true b c e f g = sym (below_by_rank q next after.serial (let l = rank_below q from q_fits e in omega (arith, l, start, step)))
    by_tests false true c e f g = sym (below_by_rank q next after.serial (let same = ap rank (ref_order.equal q o f) in omega (arith, same, step)))
    by_tests false false true e f g = absurd (there (first.nothing_before q e g))
    by_tests false false false e f g = by_next (ref_lt q next) refl
      where
        by_next : (d : Bool) → ref_lt q next ≡ d → false ≡ d
        by_next true h =
            let under = rank_below q next q_fits h in
            let above = rank_below o q o_fits (ref_order.total q o f g) in
            absurd (omega (arith, under, above, step))
        by_next false h = refl

-- behind the last reference of all nothing stands
pub last_covers : (ss : List Stored) (from o : Ref) → IsKept ss → IsFirst (look_up ss) from o → o ≡ ref 4294967295 4294967295 → (q : Ref) → look_up ss q ≢ nothing → (ref_lt q from || same_ref q o) ≡ true
last_covers ss from o kept first last q there = by_tests (ref_lt q from) (same_ref q o) (ref_lt q o) refl refl refl
  where
    by_tests : (a b c : Bool) → ref_lt q from ≡ a → same_ref q o ≡ b → ref_lt q o ≡ c → (a || b) ≡ true
    by_tests true b c e f g = refl
    by_tests false true c e f g = refl
    by_tests false false true e f g = absurd (there (first.nothing_before q e g))
    by_tests false false false e f g =
        let fits = written ss q kept there in
        let q_ty : q.ty < 4294967296 = fits.ty in
        let q_serial : q.serial < 4294967296 = fits.serial in
        let above = rank_below o q (written ss o kept first.something).serial (ref_order.total q o f g) in
        let top : rank o ≡ rank (ref 4294967295 4294967295) = ap rank last in
        absurd (omega (arith, above, top, q_ty, q_serial))

or_and : (a b w : Bool) → ((a && w) || (b && w)) ≡ ((a || b) && w)
or_and true true true = refl
or_and true true false = refl
or_and true false true = refl
or_and true false false = refl
or_and false b w = refl

-- where the test holds the two agree, so they agree with it
under_test : (x y w : Bool) → (w ≡ true → x ≡ y) → (x && w) ≡ (y && w)
under_test x y true h = ap (λ z. z && true) (h refl)
under_test true true false h = refl
under_test true false false h = refl
under_test false true false h = refl
under_test false false false h = refl

pub roots_step : (ss : List Stored) (t from o next : Ref) → from.serial < 4294967296 → IsKept ss → IsFirst (look_up ss) from o → IsNext o next → (q : Ref) → ((ref_lt q from && wrapped t (heap_of ss) q) || (same_ref q o && wrapped t (heap_of ss) q)) ≡ (ref_lt q next && wrapped t (heap_of ss) q)
roots_step ss t from o next fits kept first after q =
    or_and (ref_lt q from) (same_ref q o) (wrapped t (heap_of ss) q) ∙ under_test (ref_lt q from || same_ref q o) (ref_lt q next) (wrapped t (heap_of ss) q) (λ w. step_covers ss from o next fits kept first after q (wrapped_stands ss t q w))

pub roots_last : (ss : List Stored) (t from o : Ref) → IsKept ss → IsFirst (look_up ss) from o → o ≡ ref 4294967295 4294967295 → (q : Ref) → ((ref_lt q from && wrapped t (heap_of ss) q) || (same_ref q o && wrapped t (heap_of ss) q)) ≡ wrapped t (heap_of ss) q
roots_last ss t from o kept first last q =
    or_and (ref_lt q from) (same_ref q o) (wrapped t (heap_of ss) q) ∙ under_test (ref_lt q from || same_ref q o) true (wrapped t (heap_of ss) q) (λ w. last_covers ss from o kept first last q (wrapped_stands ss t q w))

pub roots_end : (ss : List Stored) (t from : Ref) → ((q : Ref) → ref_lt q from ≡ false → look_up ss q ≡ nothing) → (q : Ref) → (ref_lt q from && wrapped t (heap_of ss) q) ≡ wrapped t (heap_of ss) q
roots_end ss t from none q = by_test (ref_lt q from) refl
  where
    by_test : (b : Bool) → ref_lt q from ≡ b → (b && wrapped t (heap_of ss) q) ≡ wrapped t (heap_of ss) q
    by_test true e = refl
    by_test false e = sym (nothing_wrapped ss t q (none q e))

pub none_before_null : (q : Ref) → ref_lt q null ≡ false
none_before_null q = rw (le-ltb q.ty 0 (omega arith), le-ltb q.serial 0 (omega arith)) (by_test (q.ty == 0))
  where
    by_test : (b : Bool) → (false || (b && false)) ≡ false
    by_test true = refl
    by_test false = refl

pub roots_start : (t : Ref) (h : Heap) (q : Ref) → (ref_lt q null && wrapped t h q) ≡ false
roots_start t h q = ap (λ b. b && wrapped t h q) (none_before_null q)

pub searched_on : (from o next : Ref) → from.serial < 4294967296 → ref_lt o from ≡ false → IsNext o next → 18446744073709551616 - rank next < 18446744073709551616 - rank from
searched_on from o next fits h after =
    let start = first_rank from o fits h in
    let step : rank next ≡ rank o + 1 = after.next in
    let within : rank next < 18446744073709551616 = after.within in
    omega (arith, start, step, within)

-- one root more or none
pub one_root : (h : Heap) (t o : Ref) (q : Ref) → wrapped t h o ≡ true → same_ref q o ≡ (same_ref q o && wrapped t h q)
one_root h t o q w = by_test (same_ref q o) refl
  where
    by_test : (b : Bool) → same_ref q o ≡ b → b ≡ (b && wrapped t h q)
    by_test true e = sym (subst (λ r. wrapped t h r ≡ true) (sym (ref_order.equal q o e)) w)
    by_test false e = refl

pub no_root : (h : Heap) (t o : Ref) → wrapped t h o ≡ false → (q : Ref) → (same_ref q o && wrapped t h q) ≡ false
no_root h t o w q = by_test (same_ref q o) refl
  where
    by_test : (b : Bool) → same_ref q o ≡ b → (b && wrapped t h q) ≡ false
    by_test true e = subst (λ r. wrapped t h r ≡ false) (sym (ref_order.equal q o e)) w
    by_test false e = refl
