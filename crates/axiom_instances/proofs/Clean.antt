-- The axioms of clean heaps are true.
use Rattle.std.proofs.Common.{◌≡◌, ℕ, Bool, true, false, cond, ◌&&◌, ◌⊎◌, inl, inr, List, ◌∷◌, map, ℤ, pos, ◌≤ℤ◌, Option, Some, None, refl, sym, ap, ◌∙◌, subst, arith}
use Rattle.std.specs.Prelude.{int_le}
use Rattle.std.proofs.lemmas.Int.{ints}
use Rattle.std.proofs.lemmas.Bool.{and_parts}
use Rattle.object_types.specs.declared.references.Ref.{Ref}
use Rattle.object_types.specs.declared.values.Value.{Value as Scalar}
use Rattle.object_types.specs.declared.values.Value.TheVariants.{Int}
use Rattle.object_types.specs.declared.records.Mode.{Mode}
use Rattle.object_types.specs.declared.records.Mode.TheVariants.{Absent, Open, Closed, Freed}
use Rattle.object_types.specs.References.{same_ref}
use Rattle.object_types.specs.Values.{says, int}
use Rattle.object_types.specs.Heap.{Heap}
use Rattle.method.specs.declared.program.Program.{Program}
use Rattle.terms.specs.declared.term.Kind.TheVariants as k
use Rattle.terms.specs.Formula.{Formula, Formulas, Node, Stop, With}
use Rattle.term_meaning.specs.Columns.{Column, Modes, Owners, Counts, OwnedSets, ClaimedSets, Field, Shape}
use Rattle.term_meaning.specs.RawHeaps.{RawHeap, Place, ModeAt, OwnerAt, CountAt, MemberAt, ClaimedAt, FieldAt, ShapeAt, place_of, member_key, raw, mode_number, same_place, store_at, with_members, clear_set}
use Rattle.term_meaning.specs.Meaning.{Value, PlainValue, HeapValue, Env, IsEnv, scalar, heap, reference, int_value, argument, last, but_last, scalars_from, read_in, store_in, column_at, Language, Gives, AllGive}
use Rattle.term_meaning.proofs.Sorted.{same_place_is}
use Rattle.axiom_instances.specs.Terms.{is_numeral_to, last_is, limit_of, is_within, stores_cleanly, is_clean, first_clean, is_set_column, is_clean_read}
use Rattle.axiom_instances.specs.Axioms.{axiom_4a, axiom_4b}
use Rattle.axiom_instances.proofs.Kit.{RowHolds, both_hold, left_holds, right_holds, holds_by, eq_holds, le_holds, num_has, gives_holds, fits_hold, needs_holds, number_holds, heap_holds, ref_holds}
use Rattle.axiom_instances.proofs.Facts.{mode_has}
use Rattle.axiom_instances.proofs.Heaps.{int_le_is}

-- an integer from 0 to the greatest
record IsUpTo (greatest : ℤ) (v : Scalar) : Type 0 where
  value : ℤ
  is : v ≡ Int value
  low : pos 0 ≤ℤ value
  high : value ≤ℤ greatest

numeral : (greatest n : ℤ) → pos 0 ≤ℤ n → n ≤ℤ greatest → IsUpTo greatest (Int n)
numeral greatest n low high = record { value = n; is = refl; low = low; high = high }

up_to_by : (greatest : ℤ) (v w : Scalar) → v ≡ w → IsUpTo greatest w → IsUpTo greatest v
up_to_by greatest v w e u = subst (λ v. IsUpTo greatest v) (sym e) u

abbrev limit_at : Place → Option ℤ
limit_at ModeAt = Some (pos 3)
limit_at (MemberAt q) = Some (pos 1)
limit_at (ClaimedAt q) = Some (pos 1)
limit_at (ShapeAt n vs) = Some (pos 1)
limit_at _ = None

limit_of_place : (c : Column) (ks : List Scalar) → limit_at (place_of c ks) ≡ limit_of c
limit_of_place Modes ks = refl
limit_of_place Owners ks = refl
limit_of_place Counts ks = refl
limit_of_place OwnedSets ks = refl
limit_of_place ClaimedSets ks = refl
limit_of_place (Field f) ks = refl
limit_of_place (Shape n) ks = refl

record IsClean (x : RawHeap) : Type 0 where
  each : (c : Place) (greatest : ℤ) → limit_at c ≡ Some greatest → (o : Ref) → IsUpTo greatest (x c o)

mode_up_to : (m : Mode) → IsUpTo (pos 3) (Int (mode_number m))
mode_up_to Absent = numeral (pos 3) (pos 0) (omega (arith, ints)) (omega (arith, ints))
mode_up_to Open = numeral (pos 3) (pos 1) (omega (arith, ints)) (omega (arith, ints))
mode_up_to Closed = numeral (pos 3) (pos 2) (omega (arith, ints)) (omega (arith, ints))
mode_up_to Freed = numeral (pos 3) (pos 3) (omega (arith, ints)) (omega (arith, ints))

says_up_to : (b : Bool) → IsUpTo (pos 1) (says b)
says_up_to true = numeral (pos 1) (pos 1) (omega (arith, ints)) (omega (arith, ints))
says_up_to false = numeral (pos 1) (pos 0) (omega (arith, ints)) (omega (arith, ints))

limit_is : (a greatest : ℤ) (v : Scalar) → Some a ≡ Some greatest → IsUpTo a v → IsUpTo greatest v
limit_is a greatest v e u = let same : a ≡ greatest = cc in subst (λ g. IsUpTo g v) same u

raw_clean : (p : Program) (h : Heap) → IsClean (raw p h)
raw_clean p h = record { each = each }
  where
    each : (c : Place) (greatest : ℤ) → limit_at c ≡ Some greatest → (o : Ref) → IsUpTo greatest (raw p h c o)
    each ModeAt g e o = limit_is (pos 3) g _ e (mode_up_to (h.get o).mode)
    each OwnerAt g e o = absurd (cc)
    each CountAt g e o = absurd (cc)
    each (MemberAt q) g e o = limit_is (pos 1) g _ e (says_up_to _)
    each (ClaimedAt q) g e o = limit_is (pos 1) g _ e (says_up_to _)
    each (FieldAt f) g e o = absurd (cc)
    each (ShapeAt n vs) g e o = limit_is (pos 1) g _ e (says_up_to _)

stored_clean : (x : RawHeap) (c : Place) (o : Ref) (v : Scalar) → IsClean x → ((greatest : ℤ) → limit_at c ≡ Some greatest → IsUpTo greatest v) → IsClean (store_at x c o v)
stored_clean x c o v clean h = record { each = λ d g e q. by_test d g e q (same_place d c) (same_ref q o) (same_place_is d c) }
  where
    by_test : (d : Place) (g : ℤ) → limit_at d ≡ Some g → (q : Ref) (a b : Bool) → (a ≡ true → d ≡ c) → IsUpTo g (cond (a && b) v (x d q))
    by_test d g e q true true same = h g (ap (λ d. limit_at d) (sym (same refl)) ∙ e)
    by_test d g e q true false same = clean.each d g e q
    by_test d g e q false b same = clean.each d g e q

members_clean : (m : ℤ) (w : Ref) (x : RawHeap) (o : Ref) → IsUpTo (pos 3) (Int m) → IsClean x → IsClean (with_members m w x o)
members_clean m w x o up clean = record { each = each }
  where
    modes : (g : ℤ) → Some (pos 3) ≡ Some g → (q : Ref) (b : Bool) → IsUpTo g (cond b (Int m) (x ModeAt q))
    modes g e q true = limit_is (pos 3) g _ e up
    modes g e q false = clean.each ModeAt g e q

    each : (c : Place) (greatest : ℤ) → limit_at c ≡ Some greatest → (q : Ref) → IsUpTo greatest (with_members m w x o c q)
    each ModeAt g e q = modes g e q (same_ref q o)
    each OwnerAt g e q = absurd (cc)
    each CountAt g e q = absurd (cc)
    each (MemberAt r) g e q = clean.each (MemberAt r) g e q
    each (ClaimedAt r) g e q = clean.each (ClaimedAt r) g e q
    each (FieldAt f) g e q = absurd (cc)
    each (ShapeAt n vs) g e q = clean.each (ShapeAt n vs) g e q

cleared_clean : (x : RawHeap) (o : Ref) → IsClean x → IsClean (clear_set x o)
cleared_clean x o clean = record { each = each }
  where
    sets : (m : Ref) (g : ℤ) → Some (pos 1) ≡ Some g → (q : Ref) (b : Bool) → IsUpTo g (cond b (Int (pos 0)) (x (MemberAt m) q))
    sets m g e q true = limit_is (pos 1) g _ e (says_up_to false)
    sets m g e q false = clean.each (MemberAt m) g e q

    each : (c : Place) (greatest : ℤ) → limit_at c ≡ Some greatest → (q : Ref) → IsUpTo greatest (clear_set x o c q)
    each ModeAt g e q = clean.each ModeAt g e q
    each OwnerAt g e q = absurd (cc)
    each CountAt g e q = absurd (cc)
    each (MemberAt m) g e q = sets m g e q (same_ref q o)
    each (ClaimedAt r) g e q = clean.each (ClaimedAt r) g e q
    each (FieldAt f) g e q = absurd (cc)
    each (ShapeAt n vs) g e q = clean.each (ShapeAt n vs) g e q

module _ (l : Language) (e : Env) (env : IsEnv l.program e) where
  -- a numeral's value
  numeral_value : (greatest : ℤ) (f : Formula) (v : Value) → is_numeral_to greatest f ≡ true → Gives l e f v → IsUpTo greatest (scalar v)
  numeral_value greatest (Node k.Int n fs) v h g =
      let b = and_parts (int_le (pos 0) n) (int_le n greatest) h in
      up_to_by greatest (scalar v) (Int n) (ap scalar g.2) (numeral greatest n (int_le_is (pos 0) n b.0) (int_le_is n greatest b.1))
  numeral_value greatest (Node k n fs) v h g = absurd (cc)

  -- what stands last
  last_value : (test : Formula → Bool) (P : Scalar → Type 0) → ((f : Formula) (v : Value) → test f ≡ true → Gives l e f v → P (scalar v)) → (fs : Formulas) (xs : List Value) → last_is test fs ≡ true → AllGive l e fs xs → P (last (map scalar xs))
  last_value test P h Stop xs t g = absurd (cc)
  last_value test P h (With f Stop) xs t g = subst (λ xs. P (last (map scalar xs))) (sym (g.2 ∙ ap (λ ys. g.0 ∷ ys) g.4)) (h f g.0 t g.3)
  last_value test P h (With f (With f' fs)) xs t g =
      let more : P (last (map scalar g.1)) = last_value test P h (With f' fs) g.1 t g.4 in
      subst (λ xs. P (last (map scalar xs))) (sym (g.2 ∙ ap (λ ys. g.0 ∷ ys) g.4.2)) (subst (λ ys. P (last (map scalar ys))) g.4.2 more)

  -- what is stored, behind a heap and a reference
  stored_value : (test : Formula → Bool) (P : Scalar → Type 0) → P (Int (pos 0)) → ((f : Formula) (v : Value) → test f ≡ true → Gives l e f v → P (scalar v)) → (fs : Formulas) (xs : List Value) → last_is test fs ≡ true → AllGive l e fs xs → P (last (scalars_from 2 xs))
  stored_value test P zero h Stop xs t g = absurd (cc)
  stored_value test P zero h (With f Stop) xs t g = subst (λ xs. P (last (scalars_from 2 xs))) (sym (g.2 ∙ ap (λ ys. g.0 ∷ ys) g.4)) zero
  stored_value test P zero h (With f (With f' Stop)) xs t g = subst (λ xs. P (last (scalars_from 2 xs))) (sym (g.2 ∙ ap (λ ys. g.0 ∷ ys) (g.4.2 ∙ ap (λ ys. g.4.0 ∷ ys) g.4.4))) zero
  stored_value test P zero h (With f (With f' (With f'' fs))) xs t g = subst (λ xs. P (last (scalars_from 2 xs))) (sym (g.2 ∙ ap (λ ys. g.0 ∷ ys) g.4.2)) (last_value test P h (With f'' fs) g.4.1 t g.4.4)

  stored_in : (c : Option Column) (fs : Formulas) (xs : List Value) → IsClean (heap (argument xs 0)) → last_is (stores_cleanly c) fs ≡ true → AllGive l e fs xs → IsClean (heap (store_in c xs))
  stored_in None fs xs clean t g = clean
  stored_in (Some c) fs xs clean t g = stored_clean (heap (argument xs 0)) (place_of c (but_last (scalars_from 2 xs))) (reference (argument xs 1)) (last (scalars_from 2 xs)) clean (λ greatest limit. value greatest (sym (limit_of_place c (but_last (scalars_from 2 xs))) ∙ limit))
    where
      value : (greatest : ℤ) → limit_of c ≡ Some greatest → IsUpTo greatest (last (scalars_from 2 xs))
      value greatest limit = stored_value (is_numeral_to greatest) (IsUpTo greatest) (zero_up_to c greatest limit) (numeral_value greatest) fs xs (ap (λ o. last_is (is_within o) fs) (sym limit) ∙ t) g
        where
          zero_up_to : (c : Column) (greatest : ℤ) → limit_of c ≡ Some greatest → IsUpTo greatest (Int (pos 0))
          zero_up_to Modes g e = limit_is (pos 3) g _ e (mode_up_to Absent)
          zero_up_to Owners g e = absurd (cc)
          zero_up_to Counts g e = absurd (cc)
          zero_up_to OwnedSets g e = limit_is (pos 1) g _ e (says_up_to false)
          zero_up_to ClaimedSets g e = limit_is (pos 1) g _ e (says_up_to false)
          zero_up_to (Field f) g e = absurd (cc)
          zero_up_to (Shape n) g e = limit_is (pos 1) g _ e (says_up_to false)

  mutual
    clean_value : (f : Formula) (v : Value) → is_clean l.program f ≡ true → Gives l e f v → IsClean (heap v)
    clean_value (Node k.Ch n fs) v t g = let c = env.heaps n in subst (λ v. IsClean (heap v)) (sym (g.2 ∙ c.2)) (subst (λ x. IsClean x) (sym c.3.is) (raw_clean l.program c.0))
    clean_value (Node k.Set n fs) v t g =
        let a = and_parts (last_is (stores_cleanly (column_at l.program n)) fs) (first_clean l.program fs) t in
        subst (λ v. IsClean (heap v)) (sym g.2) (stored_in (column_at l.program n) fs g.0 (first_value fs g.0 a.1 g.1) a.0 g.1)
    clean_value (Node k.Open n fs) v t g = subst (λ v. IsClean (heap v)) (sym g.2) (members_clean (pos 1) _ _ _ (mode_up_to Open) (first_value fs g.0 t g.1))
    clean_value (Node k.Close n fs) v t g = subst (λ v. IsClean (heap v)) (sym g.2) (members_clean (pos 2) _ _ _ (mode_up_to Closed) (first_value fs g.0 t g.1))
    clean_value (Node k.Clear n fs) v t g = subst (λ v. IsClean (heap v)) (sym g.2) (cleared_clean _ _ (first_value fs g.0 t g.1))
    clean_value (Node k n fs) v t g = absurd (cc)

    first_value : (fs : Formulas) (xs : List Value) → first_clean l.program fs ≡ true → AllGive l e fs xs → IsClean (heap (argument xs 0))
    first_value Stop xs t g = absurd (cc)
    first_value (With f fs) xs t g = subst (λ xs. IsClean (heap (argument xs 0))) (sym g.2) (clean_value f g.0 t g.3)

  zero_or_one : (v : Scalar) → IsUpTo (pos 1) v → (v ≡ Int (pos 0)) ⊎ (v ≡ Int (pos 1))
  zero_or_one v u = elim (two u.value u.low u.high) [
    | inl z ↦ inl (u.is ∙ ap Int z)
    | inr o ↦ inr (u.is ∙ ap Int o)
  ]
    where
      two : (n : ℤ) → pos 0 ≤ℤ n → n ≤ℤ pos 1 → (n ≡ pos 0) ⊎ (n ≡ pos 1)
      two n low high = grind (arith, ints)

  read_value : (g : Formula) (v : Value) → is_clean_read l.program g ≡ true → Gives l e g v → (v ≡ int_value (pos 0)) ⊎ (v ≡ int_value (pos 1))
  read_value (Node k.Get n fs) v t g =
      let a = and_parts (is_set_column (column_at l.program n)) (first_clean l.program fs) t in
      by_column (column_at l.program n) g.0 a.0 (first_value fs g.0 a.1 g.1) g.2
    where
      of_scalar : {v : Value} {s : Scalar} → v ≡ PlainValue s → (s ≡ Int (pos 0)) ⊎ (s ≡ Int (pos 1)) → (v ≡ int_value (pos 0)) ⊎ (v ≡ int_value (pos 1))
      of_scalar {v} {s} e (inl z) = inl (e ∙ ap PlainValue z)
      of_scalar {v} {s} e (inr o) = inr (e ∙ ap PlainValue o)

      by_column : (c : Option Column) (xs : List Value) → is_set_column c ≡ true → IsClean (heap (argument xs 0)) → v ≡ read_in c xs → (v ≡ int_value (pos 0)) ⊎ (v ≡ int_value (pos 1))
      by_column None xs t clean m = absurd (cc)
      by_column (Some OwnedSets) xs t clean m = of_scalar m (zero_or_one _ (clean.each (MemberAt (member_key (scalars_from 2 xs))) (pos 1) refl _))
      by_column (Some ClaimedSets) xs t clean m = of_scalar m (zero_or_one _ (clean.each (ClaimedAt (member_key (scalars_from 2 xs))) (pos 1) refl _))
      by_column (Some (Shape j)) xs t clean m = of_scalar m (zero_or_one _ (clean.each (ShapeAt j (scalars_from 2 xs)) (pos 1) refl _))
      by_column (Some _) xs t clean m = absurd (cc)
  read_value (Node k n fs) v t g = absurd (cc)

  module _ (tree : ℕ → Option Formula) where
    pub holds_4a : RowHolds l e (axiom_4a l tree)
    holds_4a = heap_holds env tree (λ f x a. ref_holds env tree (λ o r b i. fits_hold (λ clean. gives_holds
        (let u = (clean_value f (HeapValue x) clean a.value).each ModeAt (pos 3) refl r in
        both_hold (le_holds (num_has (pos 0)) (mode_has a b) (subst (λ v. pos 0 ≤ℤ int v) (sym u.is) u.low)) (le_holds (mode_has a b) (num_has (pos 3)) (subst (λ v. int v ≤ℤ pos 3) (sym u.is) u.high))))))

    pub holds_4b : RowHolds l e (axiom_4b l tree)
    holds_4b = number_holds (λ n. needs_holds (λ g is. fits_hold (λ clean. gives_holds (holds_by {f = g} (λ v h. elim (read_value g v clean h.value) [
      | inl z ↦ left_holds (eq_holds h (num_has (pos 0)) z)
      | inr o ↦ right_holds (eq_holds h (num_has (pos 1)) o)
    ])))))
