-- A term that has a sort has a value of that sort.
use Rattle.std.proofs.Common.{◌≡◌, ℕ, zero, suc, ◌==◌, Bool, true, false, not, cond, ◌&&◌, ◌||◌, ◌⊎◌, inl, inr, List, [], ◌∷◌, ◌++◌, map, ℤ, pos, negsuc, Option, Some, None, slice_get, option_and_then, option_map, refl, sym, ap, ◌∙◌, subst}
use Rattle.std.proofs.lemmas.Bool.{and_parts, eqb-true}
use Rattle.object_types.specs.declared.references.Ref.{Ref}
use Rattle.object_types.specs.declared.values.Value.{Value as Scalar}
use Rattle.object_types.specs.declared.values.Value.TheVariants.{Int, Ref as Refers}
use Rattle.object_types.specs.References.{is_reference, is_thread, same_ref}
use Rattle.object_types.specs.Values.{same_values, or_zero}
use Rattle.object_types.specs.Heap.{Heap}
use Rattle.method.specs.declared.program.Program.{Program}
use Rattle.method.specs.declared.program.DeclaredType.{DeclaredType}
use Rattle.method.specs.declared.program.DeclaredType.TheVariants.{Integer, Pointer, Object, Claim}
use Rattle.method.specs.declared.program.Sort.{Sort as HoleSort}
use Rattle.method.specs.declared.program.Sort.TheVariants.{IntSort, RefSort}
use Rattle.method.specs.Tables.{zero_of, type_of_field, sort_of_type}
use Rattle.method.specs.WellFormed.{has_sort, IsHeapOf}
use Rattle.method.proofs.Global.{same_ref_is, same_values_are}
use Rattle.terms.specs.declared.term.Kind.{Kind}
use Rattle.terms.specs.declared.term.Kind.TheVariants as k
use Rattle.terms.specs.declared.sort.Sort.{Sort}
use Rattle.terms.specs.declared.sort.Sort.TheVariants as s
use Rattle.terms.specs.declared.sort.Column.{Column as Sorted}
use Rattle.terms.specs.Sorts.{sort_in as sort_of, when, is_zero, same_sort, same_sorts, entry, choice}
use Rattle.terms.specs.Formula.{Formula, Formulas, Node, Stop, With}
use Rattle.term_meaning.specs.Columns.{Column, Modes, Owners, Counts, OwnedSets, ClaimedSets, Field, Shape, columns_of, sorts_of, column_sorts, further_keys, value_sort, term_sort}
use Rattle.term_meaning.specs.RawHeaps.{RawHeap, Place, ModeAt, OwnerAt, CountAt, MemberAt, ClaimedAt, FieldAt, ShapeAt, place_of, raw, Shows, same_place, store_at, with_members, owns, clear_set}
pub use Rattle.term_meaning.specs.ValueSorts.{place_sort, IsSorted, HasSort, HaveSorts}
use Rattle.term_meaning.specs.Meaning.{Value, BoolValue, PlainValue, Env, IsEnv, truth, scalar, heap, reference, int_value, argument, scalars_from, but_last, last, column_at, read_in, store_in, IsLeastFailure, MeansBy, AllGive, Language, sort_in, sorts_in, AllHolds, InvHolds, quantified_sorts, Gives}

pub sort_of_place : (p : Program) (c : Column) (ks : List Scalar) → place_sort p (place_of c ks) ≡ value_sort p c
sort_of_place p Modes ks = refl
sort_of_place p Owners ks = refl
sort_of_place p Counts ks = refl
sort_of_place p OwnedSets ks = refl
sort_of_place p ClaimedSets ks = refl
sort_of_place p (Field f) ks = refl
sort_of_place p (Shape n) ks = refl

pub of_scalar : (p : Program) (s : HoleSort) (v : Scalar) → has_sort s v ≡ true → HasSort p (term_sort s) (PlainValue v)
of_scalar p IntSort (Int z) h = (z, refl)
of_scalar p IntSort (Refers r) h = absurd (cc)
of_scalar p RefSort (Int z) h = absurd (cc)
of_scalar p RefSort (Refers r) h = (r, refl, h)

pub to_scalar : (p : Program) (s : HoleSort) (x : Value) → HasSort p (term_sort s) x → has_sort s (scalar x) ≡ true
to_scalar p IntSort x h = ap (λ x. has_sort IntSort (scalar x)) h.1
to_scalar p RefSort x h = ap (λ x. has_sort RefSort (scalar x)) h.1 ∙ h.2

-- Tests of sorts.

pub same_sort_is : (a b : Sort) → same_sort a b ≡ true → a ≡ b
same_sort_is s.Int s.Int h = refl
same_sort_is s.Ref s.Ref h = refl
same_sort_is s.Heap s.Heap h = refl
same_sort_is s.Bool s.Bool h = refl
same_sort_is _ _ h = absurd (cc)

pub same_sorts_are : (as' bs : List Sort) → same_sorts as' bs ≡ true → as' ≡ bs
same_sorts_are [] [] h = refl
same_sorts_are [] (b ∷ bs) h = absurd (cc)
same_sorts_are (a ∷ as') [] h = absurd (cc)
same_sorts_are (a ∷ as') (b ∷ bs) h =
    let e = and_parts (same_sort a b) (same_sorts as' bs) h in
    let first = same_sort_is a b e.0 in
    let more = same_sorts_are as' bs e.1 in
    λ i. first i ∷ more i

when_is : (b : Bool) (a s : Sort) → when b a ≡ Some s → (b ≡ true) × (a ≡ s)
when_is true a s h = (refl, cc)
when_is false a s h = absurd (cc)

pub plain_is : (n : ℤ) (args wanted : List Sort) (a s : Sort) → when (is_zero n && same_sorts args wanted) a ≡ Some s → (args ≡ wanted) × (a ≡ s)
plain_is n args wanted a s h =
    let w = when_is _ a s h in
    (same_sorts_are args wanted (and_parts (is_zero n) _ w.0).1, w.1)

choice_is : (n : ℤ) (args : List Sort) (x : Sort) → choice n args ≡ Some x → ((args ≡ s.Bool ∷ s.Int ∷ s.Int ∷ []) × (s.Int ≡ x)) ⊎ ((args ≡ s.Bool ∷ s.Ref ∷ s.Ref ∷ []) × (s.Ref ≡ x))
choice_is n (s.Bool ∷ s.Int ∷ s.Int ∷ []) x h = inl (refl, (when_is _ s.Int x h).1)
choice_is n (s.Bool ∷ s.Ref ∷ s.Ref ∷ []) x h = inr (refl, (when_is _ s.Ref x h).1)
choice_is n _ x h = absurd (cc)

-- Columns by their numbers.

map_entry : {X Y : Type 0} (f : X → Y) (xs : List X) (n : ℕ) → slice_get (map f xs) n ≡ option_map f (slice_get xs n)
map_entry f [] n = refl
map_entry f (x ∷ xs) zero = refl
map_entry f (x ∷ xs) (suc n) = map_entry f xs n

pub entry_at : (p : Program) (n : ℤ) → entry (column_sorts p) n ≡ option_map (sorts_of p) (column_at p n)
entry_at p (pos n) = map_entry (sorts_of p) (columns_of p) n
entry_at p (negsuc n) = refl

pub same_place_is : (c d : Place) → same_place c d ≡ true → c ≡ d
same_place_is ModeAt ModeAt h = refl
same_place_is OwnerAt OwnerAt h = refl
same_place_is CountAt CountAt h = refl
same_place_is (MemberAt q) (MemberAt r) h = ap MemberAt (same_ref_is q r h)
same_place_is (ClaimedAt q) (ClaimedAt r) h = ap ClaimedAt (same_ref_is q r h)
same_place_is (FieldAt f) (FieldAt g) h = ap FieldAt (eqb-true f g h)
same_place_is (ShapeAt m vs) (ShapeAt n ws) h = let e = and_parts (m == n) (same_values vs ws) h in λ i. ShapeAt (eqb-true m n e.0 i) (same_values_are vs ws e.1 i)
same_place_is _ _ h = absurd (cc)

-- Heaps.

zero_sorted : (ty : DeclaredType) → has_sort (sort_of_type ty) (zero_of ty) ≡ true
zero_sorted (Integer c) = refl
zero_sorted (Pointer n) = refl
zero_sorted Object = refl
zero_sorted Claim = refl

read_sorted : (ty : DeclaredType) (v : Option Scalar) → ((w : Scalar) → v ≡ Some w → has_sort (sort_of_type ty) w ≡ true) → has_sort (sort_of_type ty) (or_zero (zero_of ty) v) ≡ true
read_sorted ty None h = zero_sorted ty
read_sorted ty (Some v) h = h v refl

pub raw_sorted : (p : Program) (h : Heap) → IsHeapOf p h → (c : Place) (o : Ref) → has_sort (place_sort p c) (raw p h c o) ≡ true
raw_sorted p h proper ModeAt o = refl
raw_sorted p h proper OwnerAt o = proper.owners o
raw_sorted p h proper CountAt o = refl
raw_sorted p h proper (MemberAt q) o = refl
raw_sorted p h proper (ClaimedAt q) o = refl
raw_sorted p h proper (FieldAt f) o = read_sorted (type_of_field p f) ((h.get o).fields f) (proper.values_are o f)
raw_sorted p h proper (ShapeAt n vs) o = refl

pub shown_sorted : (p : Program) (h : Heap) (x : RawHeap) → Shows p h x → IsSorted p x
shown_sorted p h x shows = record { each = λ c o. ap (λ (x : RawHeap). has_sort (place_sort p c) (x c o)) shows.is ∙ raw_sorted p h shows.proper c o }

stored_sorted : (p : Program) (x : RawHeap) (c : Place) (o : Ref) (v : Scalar) → IsSorted p x → has_sort (place_sort p c) v ≡ true → IsSorted p (store_at x c o v)
stored_sorted p x c o v sorted h = record { each = λ d q. by_test d q (same_place d c) (same_ref q o) (same_place_is d c) }
  where
    by_test : (d : Place) (q : Ref) (a b : Bool) → (a ≡ true → d ≡ c) → has_sort (place_sort p d) (cond (a && b) v (x d q)) ≡ true
    by_test d q true true e = ap (λ d. has_sort (place_sort p d) v) (e refl) ∙ h
    by_test d q true false e = sorted.each d q
    by_test d q false b e = sorted.each d q

members_sorted : (p : Program) (mode : ℤ) (owner : Ref) (x : RawHeap) (o : Ref) → IsSorted p x → is_reference owner ≡ true → IsSorted p (with_members mode owner x o)
members_sorted p mode owner x o sorted h = record { each = each }
  where
    modes : (q : Ref) (b : Bool) → has_sort IntSort (cond b (Int mode) (x ModeAt q)) ≡ true
    modes q true = refl
    modes q false = sorted.each ModeAt q

    owners : (q : Ref) (b : Bool) → has_sort RefSort (cond b (Refers owner) (x OwnerAt q)) ≡ true
    owners q true = h
    owners q false = sorted.each OwnerAt q

    each : (c : Place) (q : Ref) → has_sort (place_sort p c) (with_members mode owner x o c q) ≡ true
    each ModeAt q = modes q (same_ref q o)
    each OwnerAt q = owners q (owns x o q)
    each CountAt q = sorted.each CountAt q
    each (MemberAt m) q = sorted.each (MemberAt m) q
    each (ClaimedAt m) q = sorted.each (ClaimedAt m) q
    each (FieldAt f) q = sorted.each (FieldAt f) q
    each (ShapeAt n vs) q = sorted.each (ShapeAt n vs) q

cleared_sorted : (p : Program) (x : RawHeap) (o : Ref) → IsSorted p x → IsSorted p (clear_set x o)
cleared_sorted p x o sorted = record { each = each }
  where
    sets : (m q : Ref) (b : Bool) → has_sort IntSort (cond b (Int (pos 0)) (x (MemberAt m) q)) ≡ true
    sets m q true = refl
    sets m q false = sorted.each (MemberAt m) q

    each : (c : Place) (q : Ref) → has_sort (place_sort p c) (clear_set x o c q) ≡ true
    each ModeAt q = sorted.each ModeAt q
    each OwnerAt q = sorted.each OwnerAt q
    each CountAt q = sorted.each CountAt q
    each (MemberAt m) q = sets m q (same_ref q o)
    each (ClaimedAt m) q = sorted.each (ClaimedAt m) q
    each (FieldAt f) q = sorted.each (FieldAt f) q
    each (ShapeAt n vs) q = sorted.each (ShapeAt n vs) q

-- what is stored is the last argument
last_sorted : (p : Program) (ss : List Sort) (s : HoleSort) (xs : List Value) → HaveSorts p (ss ++ term_sort s ∷ []) xs → has_sort s (last (map scalar xs)) ≡ true
last_sorted p [] s xs h =
    let e : xs ≡ h.0 ∷ [] = h.2 ∙ ap (λ ys. h.0 ∷ ys) h.4 in
    ap (λ xs. has_sort s (last (map scalar xs))) e ∙ to_scalar p s h.0 h.3
last_sorted p (t ∷ ss) s xs h =
    let more : has_sort s (last (map scalar h.1)) ≡ true = last_sorted p ss s h.1 h.4 in
    ap (λ xs. has_sort s (last (map scalar xs))) h.2 ∙ behind h.1 (has_one ss h.1 h.4) more
  where
    has_one : (ss : List Sort) (ys : List Value) → HaveSorts p (ss ++ term_sort s ∷ []) ys → (z : Value) × (zs : List Value) × (ys ≡ z ∷ zs)
    has_one [] ys h = (h.0, h.1, h.2)
    has_one (t ∷ ss) ys h = (h.0, h.1, h.2)

    behind : (ys : List Value) → ((z : Value) × (zs : List Value) × (ys ≡ z ∷ zs)) → has_sort s (last (map scalar ys)) ≡ true → has_sort s (last (scalar h.0 ∷ map scalar ys)) ≡ true
    behind [] e m = absurd (let f : [] ≡ e.0 ∷ e.1 = e.2 in cc)
    behind (y ∷ ys) e m = m

-- the first, second and third of arguments that have sorts
pub record Firsts (p : Program) (a b : Sort) (xs : List Value) : Type 0 where
  pub first : HasSort p a (argument xs 0)
  pub second : HasSort p b (argument xs 1)

pub firsts : (p : Program) (a b : Sort) (ss : List Sort) (xs : List Value) → HaveSorts p (a ∷ b ∷ ss) xs → Firsts p a b xs
firsts p a b ss xs h =
    let e : xs ≡ h.0 ∷ h.4.0 ∷ h.4.1 = h.2 ∙ ap (λ ys. h.0 ∷ ys) h.4.2 in
    record {
      first = subst (λ xs. HasSort p a (argument xs 0)) (sym e) h.3;
      second = subst (λ xs. HasSort p b (argument xs 1)) (sym e) h.4.3;
    }

pub third : (p : Program) (a b c : Sort) (ss : List Sort) (xs : List Value) → HaveSorts p (a ∷ b ∷ c ∷ ss) xs → HasSort p c (argument xs 2)
third p a b c ss xs h = subst (λ xs. HasSort p c (argument xs 2)) (sym (h.2 ∙ ap (λ ys. h.0 ∷ ys) (h.4.2 ∙ ap (λ ys. h.4.0 ∷ ys) h.4.4.2))) h.4.4.3

heap_sorted : (p : Program) (x : Value) → HasSort p s.Heap x → IsSorted p (heap x)
heap_sorted p x h = subst (λ x. IsSorted p (heap x)) (sym h.1) h.2

ref_proper : (p : Program) (x : Value) → HasSort p s.Ref x → is_reference (reference x) ≡ true
ref_proper p x h = ap (λ x. is_reference (reference x)) h.1 ∙ h.2

-- What is read and stored.

sorted_get : (p : Program) (n : ℤ) (args : List Sort) (xs : List Value) (y : Sort) → HaveSorts p args xs → option_and_then (λ (c : Sorted). when (same_sorts args (s.Heap ∷ c.keys)) c.value) (option_map (sorts_of p) (column_at p n)) ≡ Some y → (c : Option Column) → column_at p n ≡ c → HasSort p y (read_in c xs)
sorted_get p n args xs y h e c f = by_column c (ap (λ c. option_and_then (λ (c : Sorted). when (same_sorts args (s.Heap ∷ c.keys)) c.value) (option_map (sorts_of p) c)) (sym f) ∙ e)
  where
    by_column : (c : Option Column) → option_and_then (λ (c : Sorted). when (same_sorts args (s.Heap ∷ c.keys)) c.value) (option_map (sorts_of p) c) ≡ Some y → HasSort p y (read_in c xs)
    by_column None e = absurd (cc)
    by_column (Some c) e =
        let w = when_is _ (term_sort (value_sort p c)) y e in
        let same = same_sorts_are args (s.Heap ∷ s.Ref ∷ further_keys p c) w.0 in
        let both = firsts p s.Heap s.Ref (further_keys p c) xs (subst (λ ss. HaveSorts p ss xs) same h) in
        subst (λ y. HasSort p y (read_in (Some c) xs)) w.1 (of_scalar p (value_sort p c) _ (ap (λ s. has_sort s (heap (argument xs 0) (place_of c (scalars_from 2 xs)) (reference (argument xs 1)))) (sym (sort_of_place p c (scalars_from 2 xs))) ∙ (heap_sorted p (argument xs 0) both.first).each (place_of c (scalars_from 2 xs)) (reference (argument xs 1))))

sorted_set : (p : Program) (args : List Sort) (xs : List Value) (y : Sort) (c : Option Column) → HaveSorts p args xs → option_and_then (λ (c : Sorted). when (same_sorts args (s.Heap ∷ c.keys ++ c.value ∷ [])) s.Heap) (option_map (sorts_of p) c) ≡ Some y → HasSort p y (store_in c xs)
sorted_set p args xs y None h e = absurd (cc)
sorted_set p args xs y (Some c) h e =
    let w = when_is _ s.Heap y e in
    let same = same_sorts_are args (s.Heap ∷ s.Ref ∷ further_keys p c ++ term_sort (value_sort p c) ∷ []) w.0 in
    let g = subst (λ ss. HaveSorts p ss xs) same h in
    let both = firsts p s.Heap s.Ref (further_keys p c ++ term_sort (value_sort p c) ∷ []) xs g in
    let from : xs ≡ g.0 ∷ g.4.0 ∷ g.4.1 = g.2 ∙ ap (λ ys. g.0 ∷ ys) g.4.2 in
    let value : has_sort (value_sort p c) (last (scalars_from 2 xs)) ≡ true = ap (λ xs. has_sort (value_sort p c) (last (scalars_from 2 xs))) from ∙ last_sorted p (further_keys p c) (value_sort p c) g.4.1 g.4.4 in
    subst (λ y. HasSort p y (store_in (Some c) xs)) w.1 (_, refl, stored_sorted p (heap (argument xs 0)) (place_of c (but_last (scalars_from 2 xs))) (reference (argument xs 1)) (last (scalars_from 2 xs)) (heap_sorted p (argument xs 0) both.first) (ap (λ s. has_sort s (last (scalars_from 2 xs))) (sort_of_place p c (but_last (scalars_from 2 xs))) ∙ value))

module _ (p : Program) (All : ℕ → List Value → Type 0) (Inv : Ref → RawHeap → RawHeap → Type 0) (e : Env) (env : IsEnv p e) (formulas : List (List Sort)) where
  -- a value, by its sort
  sum_sorted : (n : ℤ) (args wanted : List Sort) (y : Sort) (x : Value) (z : ℤ) → when (is_zero n && same_sorts args wanted) s.Int ≡ Some y → x ≡ int_value z → HasSort p y x
  sum_sorted n args wanted y x z h m = subst (λ y. HasSort p y x) (plain_is n args wanted s.Int y h).1 (z, m)

  bool_value : (b : Bool) (y : Sort) (x : Value) (c : Bool) → when b s.Bool ≡ Some y → x ≡ BoolValue c → HasSort p y x
  bool_value b y x c h m = subst (λ y. HasSort p y x) (when_is b s.Bool y h).1 (c, m)

  quantified_is : (n : ℤ) (args : List Sort) (a y : Sort) (ws : Option (List Sort)) → option_and_then (λ wanted. when (same_sorts args wanted) a) ws ≡ Some y → a ≡ y
  quantified_is n args a y None h = absurd (cc)
  quantified_is n args a y (Some wanted) h = (when_is _ a y h).1

  least_proper : (P : Ref → Type 0) (r : Ref) → IsLeastFailure P r → is_reference r ≡ true
  least_proper P r (inl f) = f.0
  least_proper P r (inr g) = ap is_reference g.1

  sorted_choice : (b : Bool) (x y : Value) (t : Sort) → HasSort p t x → HasSort p t y → HasSort p t (cond b x y)
  sorted_choice true x y t h k = h
  sorted_choice false x y t h k = k

  pub means_sorted : (k : Kind) (n : ℤ) (args : List Sort) (xs : List Value) (x : Value) (y : Sort) → HaveSorts p args xs → sort_of k n args (column_sorts p) formulas ≡ Some y → MeansBy p All Inv e k n xs x → HasSort p y x
  means_sorted k.Int n args xs x y h t m = subst (λ y. HasSort p y x) (when_is _ s.Int y t).1 (n, m)
  means_sorted k.Ci n args xs x y h t m = subst (λ y. HasSort p y x) (when_is _ s.Int y t).1 (let c = env.integers n in (c.0, m ∙ c.1))
  means_sorted k.Add n args xs x y h t m = sum_sorted n args _ y x _ t m
  means_sorted k.Sub n args xs x y h t m = sum_sorted n args _ y x _ t m
  means_sorted k.Mul n args xs x y h t m = sum_sorted n args _ y x _ t m
  means_sorted k.Div n args xs x y h t m = sum_sorted n args _ y x _ t m
  means_sorted k.Mod n args xs x y h t m = sum_sorted n args _ y x _ t m
  means_sorted k.Typ n args xs x y h t m = sum_sorted n args _ y x _ t m
  means_sorted k.Get n args xs x y h t m = subst (λ x. HasSort p y x) (sym m) (sorted_get p n args xs y h (ap (λ c. option_and_then (λ (c : Sorted). when (same_sorts args (s.Heap ∷ c.keys)) c.value) c) (sym (entry_at p n)) ∙ t) (column_at p n) refl)
  means_sorted k.Ite n args xs x y h t m = elim (choice_is n args y t) [
    | inl c ↦ (let g = subst (λ ss. HaveSorts p ss xs) c.0 h in subst (λ x. HasSort p y x) (sym m) (sorted_choice (truth (argument xs 0)) (argument xs 1) (argument xs 2) y (subst (λ y. HasSort p y (argument xs 1)) c.1 (firsts p s.Bool s.Int (s.Int ∷ []) xs g).second) (subst (λ y. HasSort p y (argument xs 2)) c.1 (third p s.Bool s.Int s.Int [] xs g))))
    | inr c ↦ (let g = subst (λ ss. HaveSorts p ss xs) c.0 h in subst (λ x. HasSort p y x) (sym m) (sorted_choice (truth (argument xs 0)) (argument xs 1) (argument xs 2) y (subst (λ y. HasSort p y (argument xs 1)) c.1 (firsts p s.Bool s.Ref (s.Ref ∷ []) xs g).second) (subst (λ y. HasSort p y (argument xs 2)) c.1 (third p s.Bool s.Ref s.Ref [] xs g))))
  ]
  means_sorted k.Null n args xs x y h t m = subst (λ y. HasSort p y x) (plain_is n args _ s.Ref y t).1 (_, m, refl)
  means_sorted k.Me n args xs x y h t m = subst (λ y. HasSort p y x) (plain_is n args _ s.Ref y t).1 (_, m, thread_proper e.me env.me)
    where
      thread_proper : (r : Ref) → is_thread r ≡ true → is_reference r ≡ true
      thread_proper r h = by_type r.ty (eqb-true r.ty 1 h)
        where
          by_type : (ty : ℕ) → ty ≡ 1 → (not (ty == 0) || (r.serial == 0)) ≡ true
          by_type ty e = ap (λ ty. not (ty == 0) || (r.serial == 0)) e
  means_sorted k.Cr n args xs x y h t m = subst (λ y. HasSort p y x) (when_is _ s.Ref y t).1 (let c = env.references n in (c.0, m ∙ c.1, c.2))
  means_sorted k.Cex n args xs x y h t m = subst (λ y. HasSort p y x) (quantified_is n args s.Ref y (entry formulas n) t) (m.0, m.1, least_proper _ m.0 m.2)
  means_sorted k.Ch n args xs x y h t m = subst (λ y. HasSort p y x) (when_is _ s.Heap y t).1 (let c = env.heaps n in (c.1, m ∙ c.2, shown_sorted p c.0 c.1 c.3))
  means_sorted k.Set n args xs x y h t m = subst (λ x. HasSort p y x) (sym m) (sorted_set p args xs y (column_at p n) h (ap (λ c. option_and_then (λ (c : Sorted). when (same_sorts args (s.Heap ∷ c.keys ++ c.value ∷ [])) s.Heap) c) (sym (entry_at p n)) ∙ t))
  means_sorted k.Open n args xs x y h t m =
      let w = plain_is n args _ s.Heap y t in
      let g = subst (λ ss. HaveSorts p ss xs) w.0 h in
      subst (λ y. HasSort p y x) w.1 (_, m, members_sorted p _ _ _ _ (heap_sorted p _ (firsts p s.Heap s.Ref (s.Ref ∷ []) xs g).first) (ref_proper p _ (third p s.Heap s.Ref s.Ref [] xs g)))
  means_sorted k.Close n args xs x y h t m =
      let w = plain_is n args _ s.Heap y t in
      let g = firsts p s.Heap s.Ref (s.Ref ∷ []) xs (subst (λ ss. HaveSorts p ss xs) w.0 h) in
      subst (λ y. HasSort p y x) w.1 (_, m, members_sorted p _ _ _ _ (heap_sorted p _ g.first) (ref_proper p _ g.second))
  means_sorted k.Clear n args xs x y h t m =
      let w = plain_is n args _ s.Heap y t in
      let g = firsts p s.Heap s.Ref [] xs (subst (λ ss. HaveSorts p ss xs) w.0 h) in
      subst (λ y. HasSort p y x) w.1 (_, m, cleared_sorted p _ _ (heap_sorted p _ g.first))
  means_sorted k.True n args xs x y h t m = bool_value _ y x _ t m
  means_sorted k.Not n args xs x y h t m = bool_value _ y x _ t m
  means_sorted k.And n args xs x y h t m = bool_value _ y x _ t m
  means_sorted k.Or n args xs x y h t m = bool_value _ y x _ t m
  means_sorted k.Imp n args xs x y h t m = bool_value _ y x _ t m
  means_sorted k.Eq n args xs x y h t m = bool_value _ y x _ t m.is_bool
  means_sorted k.Le n args xs x y h t m = bool_value _ y x _ t m.is_bool
  means_sorted k.All n args xs x y h t m = subst (λ y. HasSort p y x) (quantified_is n args s.Bool y (entry formulas n) t) (_, m.is_bool)
  means_sorted k.Good n args xs x y h t m = bool_value _ y x _ t m.is_bool
  means_sorted k.Sys n args xs x y h t m = bool_value _ y x _ t m.is_bool
  means_sorted k.Inv n args xs x y h t m = bool_value _ y x _ t m.is_bool
  means_sorted k.Legal n args xs x y h t m = bool_value _ y x _ t m.is_bool
  means_sorted k.Kept n args xs x y h t m = bool_value _ y x _ t m.is_bool
  means_sorted k.Touched n args xs x y h t m = bool_value _ y x _ t m.is_bool
  means_sorted k.Rely n args xs x y h t m = bool_value _ y x _ t m.is_bool
  means_sorted k.Frame n args xs x y h t m = bool_value _ y x _ t m.is_bool
  means_sorted k.Stab n args xs x y h t m = bool_value _ y x _ t m.is_bool
  means_sorted k.Idle n args xs x y h t m = bool_value _ y x _ t m.is_bool

module _ (l : Language) (e : Env) (env : IsEnv l.program e) where
  of_parts : (f : Formula) (fs : Formulas) (a : Option Sort) (b : Option (List Sort)) (ss : List Sort) → sort_in l f ≡ a → sorts_in l fs ≡ b → option_and_then (λ a. option_and_then (λ as'. Some (a ∷ as')) b) a ≡ Some ss → (c : Sort) × (cs : List Sort) × (sort_in l f ≡ Some c) × (sorts_in l fs ≡ Some cs) × (ss ≡ c ∷ cs)
  of_parts f fs None b ss d g h = absurd (cc)
  of_parts f fs (Some a) None ss d g h = absurd (cc)
  of_parts f fs (Some a) (Some as') ss d g h = (a, as', d, g, (cc))

  pub of_node : (k : Kind) (n : ℤ) (b : Option (List Sort)) (y : Sort) → option_and_then (λ args. sort_of k n args (column_sorts l.program) (quantified_sorts l)) b ≡ Some y → (ss : List Sort) × (b ≡ Some ss) × (sort_of k n ss (column_sorts l.program) (quantified_sorts l) ≡ Some y)
  of_node k n None y h = absurd (cc)
  of_node k n (Some ss) y h = (ss, refl, h)

  mutual
    -- a formula that has a sort has a value of it
    pub gives_sorted : (f : Formula) (y : Sort) (x : Value) → sort_in l f ≡ Some y → Gives l e f x → HasSort l.program y x
    gives_sorted (Node k n fs) y x h g =
        let o = of_node k n (sorts_in l fs) y h in
        means_sorted l.program (AllHolds l e.me) (InvHolds l e.me) e env (quantified_sorts l) k n o.0 g.0 x y (all_give_sorted fs o.0 g.0 o.1 g.1) o.2 g.2

    pub all_give_sorted : (fs : Formulas) (ss : List Sort) (xs : List Value) → sorts_in l fs ≡ Some ss → AllGive l e fs xs → HaveSorts l.program ss xs
    all_give_sorted Stop ss xs h g = let none : [] ≡ ss = cc in subst (λ ss. HaveSorts l.program ss xs) none g
    all_give_sorted (With f fs) ss xs h g =
        let o = of_parts f fs (sort_in l f) (sorts_in l fs) ss refl refl h in
        subst (λ ss. HaveSorts l.program ss xs) (sym o.4) (g.0, g.1, g.2, gives_sorted f o.0 g.0 o.2 g.3, all_give_sorted fs o.1 g.1 o.3 g.4)
