-- A raw heap is one heap of the program at most, and what its columns don't touch isn't touched.
use Rattle.method.specs.WellFormed.{IsHeapOf}
use Rattle.std.proofs.Common.{◌≡◌, ℕ, Bool, true, false, ◌||◌, ◌⊎◌, inl, inr, List, [], ◌∷◌, pos, Option, Some, None, refl, sym, ap, ◌∙◌, subst}
use Rattle.std.proofs.lemmas.Bool.{and_parts, or_cases, or_left, both_ways, false_from_ne_true}
use Rattle.object_types.specs.declared.references.Ref.{Ref}
use Rattle.object_types.specs.declared.values.Value.{Value as Scalar}
use Rattle.object_types.specs.declared.values.Value.TheVariants.{Int, Ref as Refers}
use Rattle.object_types.specs.declared.records.Mode.{Mode}
use Rattle.object_types.specs.declared.records.Mode.TheVariants.{Absent, Open, Closed, Freed}
use Rattle.object_types.specs.declared.shapes.Entry.{Entry}
use Rattle.object_types.specs.References.{same_ref, ref_lt}
use Rattle.object_types.specs.Values.{int, referent, says, kept, or_zero, same_value}
use Rattle.object_types.specs.Sets.{is_in, some, is_ordered, ordered_from}
use Rattle.object_types.specs.Shapes.{same_entry, entry_lt}
use Rattle.object_types.specs.Heap.{Heap, is_closed as closed_mode}
use Rattle.object_types.proofs.Orders.{IsOrder, ref_order, entry_order, not_before_itself}
use Rattle.method.specs.declared.program.DeclaredType.{DeclaredType}
use Rattle.method.specs.declared.program.DeclaredType.TheVariants.{Integer, Pointer, Object, Claim}
use Rattle.method.specs.declared.program.Program.{Program}
use Rattle.method.specs.Tables.{zero_of, type_of_field}
use Rattle.term_meaning.specs.RawHeaps.{Place, ModeAt, OwnerAt, CountAt, MemberAt, ClaimedAt, FieldAt, ShapeAt, mode_number, raw}
use Rattle.term_meaning.specs.Promises.{HeapsAreOne, UntouchedByColumns}

-- Two lists in order with the same members are the same.
module _ {K : Type 0} (before same : K → K → Bool) (o : IsOrder before same) where
  behind_first : (x q : K) (xs : List K) → ordered_from before x xs ≡ true → some (same q) xs ≡ true → before x q ≡ true
  behind_first x q [] h m = absurd (cc)
  behind_first x q (y ∷ ys) h m =
      let p = and_parts (before x y) (ordered_from before y ys) h in
      elim (or_cases (same q y) (some (same q) ys) m) [
        | inl s ↦ subst (λ z. before x z ≡ true) (sym (o.equal q y s)) p.0
        | inr n ↦ o.chain x y q p.0 (behind_first y q ys p.1 n)
      ]

  tail_ordered : (x : K) (xs : List K) → ordered_from before x xs ≡ true → is_ordered before xs ≡ true
  tail_ordered x [] h = refl
  tail_ordered x (y ∷ ys) h = (and_parts (before x y) (ordered_from before y ys) h).1

  not_in_tail : (x : K) (xs : List K) → ordered_from before x xs ≡ true → some (same x) xs ≡ false
  not_in_tail x xs h = false_from_ne_true _ (λ m. both_ways _ (not_before_itself before same o x) (behind_first x x xs h m))

  heads : (x y : K) (xs ys : List K) → ordered_from before x xs ≡ true → ordered_from before y ys ≡ true → ((q : K) → some (same q) (x ∷ xs) ≡ some (same q) (y ∷ ys)) → x ≡ y
  heads x y xs ys h k e =
      elim (or_cases (same x y) (some (same x) ys) (sym (e x) ∙ or_left _ _ (o.itself x))) [
        | inl s ↦ o.equal x y s
        | inr m ↦
            elim (or_cases (same y x) (some (same y) xs) (e y ∙ or_left _ _ (o.itself y))) [
              | inl s ↦ sym (o.equal y x s)
              | inr n ↦ absurd (both_ways _ (o.one_way y x (behind_first y x ys k m)) (behind_first x y xs h n))
            ]
      ]

  tails : (x : K) (xs ys : List K) → ordered_from before x xs ≡ true → ordered_from before x ys ≡ true → ((q : K) → some (same q) (x ∷ xs) ≡ some (same q) (x ∷ ys)) → (q : K) → some (same q) xs ≡ some (same q) ys
  tails x xs ys h k e q = by_test (same q x) refl (e q)
    where
      by_test : (b : Bool) → same q x ≡ b → (same q x || some (same q) xs) ≡ (same q x || some (same q) ys) → some (same q) xs ≡ some (same q) ys
      by_test true s f = ap (λ z. some (same z) xs) (o.equal q x s) ∙ not_in_tail x xs h ∙ sym (not_in_tail x ys k) ∙ ap (λ z. some (same z) ys) (sym (o.equal q x s))
      by_test false s f = ap (λ b. b || some (same q) xs) (sym s) ∙ f ∙ ap (λ b. b || some (same q) ys) s

  pub same_members : (xs ys : List K) → is_ordered before xs ≡ true → is_ordered before ys ≡ true → ((q : K) → some (same q) xs ≡ some (same q) ys) → xs ≡ ys
  same_members [] [] h k e = refl
  same_members [] (y ∷ ys) h k e = absurd (both_ways _ (sym (e y)) (or_left _ _ (o.itself y)))
  same_members (x ∷ xs) [] h k e = absurd (both_ways _ (e x) (or_left _ _ (o.itself x)))
  same_members (x ∷ xs) (y ∷ ys) h k e =
      let first : x ≡ y = heads x y xs ys h k e in
      let k' : ordered_from before x ys ≡ true = subst (λ z. ordered_from before z ys ≡ true) (sym first) k in
      let e' : (q : K) → some (same q) (x ∷ xs) ≡ some (same q) (x ∷ ys) = subst (λ z. (q : K) → some (same q) (x ∷ xs) ≡ some (same q) (z ∷ ys)) (sym first) e in
      let rest : xs ≡ ys = same_members xs ys (tail_ordered x xs h) (tail_ordered x ys k') (tails x xs ys h k' e') in
      λ i. first i ∷ rest i

is_some_of : (q : Ref) (xs : List Ref) → is_in q xs ≡ some (same_ref q) xs
unfolding is_in
is_some_of q [] = refl
is_some_of q (x ∷ xs) = ap (λ b. same_ref q x || b) (is_some_of q xs)

same_sets : (xs ys : List Ref) → is_ordered ref_lt xs ≡ true → is_ordered ref_lt ys ≡ true → ((q : Ref) → is_in q xs ≡ is_in q ys) → xs ≡ ys
same_sets xs ys h k e = same_members ref_lt same_ref ref_order xs ys h k (λ q. sym (is_some_of q xs) ∙ e q ∙ is_some_of q ys)

same_says : (a b : Bool) → says a ≡ says b → a ≡ b
same_says true true h = refl
same_says true false h = absurd (let e : pos 1 ≡ pos 0 = ap int h in cc)
same_says false true h = absurd (let e : pos 0 ≡ pos 1 = ap int h in cc)
same_says false false h = refl

same_modes : (a b : Mode) → mode_number a ≡ mode_number b → a ≡ b
same_modes Absent Absent h = refl
same_modes Open Open h = refl
same_modes Closed Closed h = refl
same_modes Freed Freed h = refl
same_modes _ _ h = absurd (cc)

zero_kept : (ty : DeclaredType) → kept (zero_of ty) ≡ None
unfolding same_ref
zero_kept (Integer c) = refl
zero_kept (Pointer n) = refl
zero_kept Object = refl
zero_kept Claim = refl

same_kept : (ty : DeclaredType) (v w : Option Scalar) → ((s : Scalar) → v ≡ Some s → kept s ≡ Some s) → ((s : Scalar) → w ≡ Some s → kept s ≡ Some s) → or_zero (zero_of ty) v ≡ or_zero (zero_of ty) w → v ≡ w
same_kept ty None None h k e = refl
same_kept ty (Some v) (Some w) h k e = ap Some e
same_kept ty None (Some w) h k e = absurd (let f : None ≡ Some w = sym (zero_kept ty) ∙ ap kept e ∙ k w refl in cc)
same_kept ty (Some v) None h k e = absurd (let f : Some v ≡ None = sym (h v refl) ∙ ap kept e ∙ zero_kept ty in cc)

-- the records of two heaps at one reference, by their columns
module _ (p : Program) (h k : Heap) (a : IsHeapOf p h) (b : IsHeapOf p k) (o : Ref) where
  owned_same : ((q : Ref) → raw p k (MemberAt q) o ≡ raw p h (MemberAt q) o) → (k.get o).owned ≡ (h.get o).owned
  owned_same e = same_sets (k.get o).owned (h.get o).owned (b.owned_ordered o) (a.owned_ordered o) (λ q. same_says _ _ (e q))

  listed_same : ((q : Ref) → raw p k (ClaimedAt q) o ≡ raw p h (ClaimedAt q) o) → (k.get o).listed ≡ (h.get o).listed
  listed_same e = same_sets (k.get o).listed (h.get o).listed (b.listed_ordered o) (a.listed_ordered o) (λ q. same_says _ _ (e q))

  shapes_same : ((n : ℕ) (vs : List Scalar) → raw p k (ShapeAt n vs) o ≡ raw p h (ShapeAt n vs) o) → (k.get o).shapes ≡ (h.get o).shapes
  shapes_same e = same_members entry_lt same_entry entry_order (k.get o).shapes (h.get o).shapes (b.shapes_ordered o) (a.shapes_ordered o) (λ (d : Entry). same_says _ _ (e d.shape d.values))

  fields_same : (f : ℕ) → raw p k (FieldAt f) o ≡ raw p h (FieldAt f) o → (k.get o).fields f ≡ (h.get o).fields f
  fields_same f e = same_kept (type_of_field p f) ((k.get o).fields f) ((h.get o).fields f) (b.kept_fields o f) (a.kept_fields o f) e

  record_same : ((c : Place) → raw p k c o ≡ raw p h c o) → k.get o ≡ h.get o
  record_same e = λ i. record {
    mode = same_modes (k.get o).mode (h.get o).mode (ap int (e ModeAt)) i;
    owner = ap referent (e OwnerAt) i;
    count = ap int (e CountAt) i;
    owned = owned_same (λ q. e (MemberAt q)) i;
    fields = λ f. fields_same f (e (FieldAt f)) i;
    listed = listed_same (λ q. e (ClaimedAt q)) i;
    shapes = shapes_same (λ n vs. e (ShapeAt n vs)) i;
  }

pub one_heap : HeapsAreOne
one_heap p h k a b e o = record_same p h k a b o (λ c i. sym e i c o)

pub closed_mode_is : (m : Mode) → same_value (Int (mode_number m)) (Int (pos 2)) ≡ closed_mode m
closed_mode_is Absent = refl
closed_mode_is Open = refl
closed_mode_is Closed = refl
closed_mode_is Freed = refl

pub untouched_is_one : UntouchedByColumns
untouched_is_one p h k a b o u = record {
  count = ap int (u.content CountAt refl);
  owned = owned_same p h k a b o (λ q. u.content (MemberAt q) refl);
  fields = λ f. fields_same p h k a b o f (u.content (FieldAt f) refl);
  listed = listed_same p h k a b o (λ q. u.content (ClaimedAt q) refl);
  shapes = shapes_same p h k a b o (λ n vs. u.content (ShapeAt n vs) refl);
  closed = sym (closed_mode_is (k.get o).mode) ∙ u.status ∙ closed_mode_is (h.get o).mode;
  counts = λ q w. ap int (u.counts q (owners q w));
  approved = λ q w. record { fields = λ f n. fields_same p h k a b q f (u.approved q (owners q w) f n) };
}
  where
    owners : (q : Ref) → ((h.get q).owner ≡ o) ⊎ ((k.get q).owner ≡ o) → (raw p h OwnerAt q ≡ Refers o) ⊎ (raw p k OwnerAt q ≡ Refers o)
    owners q (inl e) = inl (ap Refers e)
    owners q (inr e) = inr (ap Refers e)
