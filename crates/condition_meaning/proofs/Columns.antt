-- What the columns of a heap of the program say, as values of terms.
use Rattle.std.proofs.Math.Bool.{and_assoc, or-false, or_assoc}
use Rattle.std.proofs.Common.{◌≡◌, ℕ, zero, suc, ◌+◌, ◌<◌, ◌==◌, nat_lt, Bool, true, false, not, ◌&&◌, ◌||◌, List, [], ◌∷◌, ◌++◌, map, length, Some, slice_get, refl, sym, ap, ◌∙◌, subst, arith, pos}
use Rattle.std.proofs.lemmas.Bool.{ltb-true}
use Rattle.object_types.specs.declared.references.Ref.{Ref}
use Rattle.object_types.specs.declared.values.Value.{Value as Scalar}
use Rattle.object_types.specs.declared.values.Value.TheVariants.{Int, Ref as Refers}
use Rattle.object_types.specs.declared.records.Mode.{Mode}
use Rattle.object_types.specs.declared.records.Mode.TheVariants.{Absent, Open, Closed, Freed}
use Rattle.object_types.specs.References.{null as null_ref, same_ref, is_null, is_thread, is_reference}
use Rattle.object_types.specs.Values.{referent, says, same_value, is_zero_int}
use Rattle.object_types.specs.Sets.{is_in, every}
use Rattle.object_types.specs.Shapes.{has_entry}
use Rattle.object_types.specs.Heap.{Heap, closed_in, is_closed, is_open, mutable, wrapped, wrapped0, writable}
use Rattle.method.specs.declared.program.DeclaredType.{DeclaredType}
use Rattle.method.specs.declared.program.DeclaredType.TheVariants.{Integer, Pointer, Object, Claim}
use Rattle.method.specs.declared.program.Program.{Program}
use Rattle.method.specs.Tables.{in_type, read, type_of_field, sort_of_type}
use Rattle.method.specs.WellFormed.{has_sort}
use Rattle.condition_meaning.proofs.Near.{Near, field_near}
use Rattle.terms.specs.Formula.{Formula}
use Rattle.term_meaning.specs.Columns.{Column, Modes, Owners, Counts, OwnedSets, ClaimedSets, Field, Shape, columns_of, field_columns, shape_columns}
use Rattle.term_meaning.specs.RawHeaps.{raw, mode_number}
use Rattle.term_meaning.specs.Meaning.{Value, PlainValue, HeapValue, Env, Language, column_at, scalar, read_in}
use Rattle.axiom_instances.proofs.Kit as kit
use Rattle.axiom_instances.proofs.Kit.{HaveAll, none, one, more, node_has}
use Rattle.conditions.specs.Formulas as f
use Rattle.conditions.specs.Formulas.{row, nat, null, eq, typ, or', not', any_of, all_of, is_any}
use Rattle.conditions.specs.Symbolic.{symbolic_of_type, ranges}
use Rattle.conditions.specs.Ways.{StandsFor}
use Rattle.condition_meaning.specs.Fits.{is_ref_type}
use Rattle.condition_meaning.proofs.Truths as truths

-- The columns' numbers.

field_at : {X : Type 0} (fs : List X) (rest : List Column) (start i : ℕ) (columns : ℕ → List X → List Column) → ((n : ℕ) (x : X) (xs : List X) → columns n (x ∷ xs) ≡ Field n ∷ columns (n + 1) xs) → i < length fs → slice_get (columns start fs ++ rest) i ≡ Some (Field (start + i))
field_at [] rest start i columns step h = absurd (omega (arith, h))
field_at (x ∷ fs) rest start zero columns step h = ap (λ cs. slice_get (cs ++ rest) 0) (step start x fs) ∙ ap (λ n. Some (Field n)) (let z : start ≡ start + 0 = omega arith in z)
field_at (x ∷ fs) rest start (suc i) columns step h =
    ap (λ cs. slice_get (cs ++ rest) (suc i)) (step start x fs) ∙ field_at fs rest (start + 1) i columns step (omega (arith, h)) ∙ ap (λ n. Some (Field n)) (let z : start + 1 + i ≡ start + suc i = omega arith in z)

shape_at : {X : Type 0} (ss : List X) (start i : ℕ) (columns : ℕ → List X → List Column) → ((n : ℕ) (x : X) (xs : List X) → columns n (x ∷ xs) ≡ Shape n ∷ columns (n + 1) xs) → i < length ss → slice_get (columns start ss) i ≡ Some (Shape (start + i))
shape_at [] start i columns step h = absurd (omega (arith, h))
shape_at (x ∷ ss) start zero columns step h = ap (λ cs. slice_get cs 0) (step start x ss) ∙ ap (λ n. Some (Shape n)) (let z : start ≡ start + 0 = omega arith in z)
shape_at (x ∷ ss) start (suc i) columns step h =
    ap (λ cs. slice_get cs (suc i)) (step start x ss) ∙ shape_at ss (start + 1) i columns step (omega (arith, h)) ∙ ap (λ n. Some (Shape n)) (let z : start + 1 + i ≡ start + suc i = omega arith in z)

behind : {X Y : Type 0} (xs : List X) (ys : List Y) (start i : ℕ) (columns : ℕ → List X → List Y) → ((n : ℕ) → columns n [] ≡ []) → ((n : ℕ) (x : X) (xs : List X) → (c : Y) × (columns n (x ∷ xs) ≡ c ∷ columns (n + 1) xs)) → slice_get (columns start xs ++ ys) (length xs + i) ≡ slice_get ys i
behind [] ys start i columns empty step = ap (λ cs. slice_get (cs ++ ys) (0 + i)) (empty start) ∙ ap (λ n. slice_get ys n) (let z : 0 + i ≡ i = omega arith in z)
behind (x ∷ xs) ys start i columns empty step =
    let s = step start x xs in
    ap (λ cs. slice_get (cs ++ ys) (suc (length xs) + i)) s.1 ∙ ap (λ n. slice_get (s.0 ∷ columns (start + 1) xs ++ ys) n) (let z : suc (length xs) + i ≡ suc (length xs + i) = omega arith in z) ∙ behind xs ys (start + 1) i columns empty step

behind_five : {X : Type 0} (a b c d e : X) (rest : List X) (i : ℕ) → slice_get (a ∷ b ∷ c ∷ d ∷ e ∷ rest) (5 + i) ≡ slice_get rest i
behind_five a b c d e rest i = ap (λ n. slice_get (a ∷ b ∷ c ∷ d ∷ e ∷ rest) n) (let z : 5 + i ≡ suc (suc (suc (suc (suc i)))) = omega arith in z)

pub field_column : (p : Program) (g : ℕ) → nat_lt g (length p.fields.items) ≡ true → column_at p (pos (f.field_column g)) ≡ Some (Field g)
field_column p g h =
    behind_five Modes Owners Counts OwnedSets ClaimedSets (field_columns 0 p.fields.items ++ shape_columns 0 p.shapes.items) g ∙ field_at p.fields.items (shape_columns 0 p.shapes.items) 0 g (λ n xs. field_columns n xs) (λ n x xs. refl) (ltb-true _ _ h)
    ∙ ap (λ n. Some (Field n)) (let z : 0 + g ≡ g = omega arith in z)

pub shape_column : (p : Program) (n : ℕ) → nat_lt n (length p.shapes.items) ≡ true → column_at p (pos (f.shape_column p n)) ≡ Some (Shape n)
shape_column p n h =
    ap (λ k. slice_get (columns_of p) k) (let z : 5 + length p.fields.items + n ≡ 5 + (length p.fields.items + n) = omega arith in z)
    ∙ behind_five Modes Owners Counts OwnedSets ClaimedSets (field_columns 0 p.fields.items ++ shape_columns 0 p.shapes.items) (length p.fields.items + n)
    ∙ behind p.fields.items (shape_columns 0 p.shapes.items) 0 n (λ n xs. field_columns n xs) (λ n. refl) (λ n x xs. (Field n, refl)) ∙ shape_at p.shapes.items 0 n (λ n xs. shape_columns n xs) (λ n x xs. refl) (ltb-true _ _ h)
    ∙ ap (λ n. Some (Shape n)) (let z : 0 + n ≡ n = omega arith in z)

-- Values.

says_one : (b : Bool) → same_value (says b) (Int (pos 1)) ≡ b
says_one true = refl
says_one false = refl

closed_two : (m : Mode) → same_value (Int (mode_number m)) (Int (pos 2)) ≡ is_closed m
closed_two Absent = refl
closed_two Open = refl
closed_two Closed = refl
closed_two Freed = refl

open_one : (m : Mode) → same_value (Int (mode_number m)) (Int (pos 1)) ≡ is_open m
open_one Absent = refl
open_one Open = refl
open_one Closed = refl
open_one Freed = refl

module _ (l : Language) (e : Env) where
  abbrev Has : Formula → Scalar → Type 0
  Has = truths.Has l e

  abbrev Is : Formula → Bool → Type 0
  Is = truths.Is l e

  module _ (h : Formula) (k : Heap) (heap : truths.HeapIs l e h k) where
    pub has_mode : (o : Formula) (a : Scalar) → Has o a → Has (f.mode h o) (Int (mode_number (k.get (referent a)).mode))
    has_mode o a i = kit.get_any [] Modes refl heap i none

    pub has_owner : (o : Formula) (a : Scalar) → Has o a → Has (f.owner h o) (Refers (k.get (referent a)).owner)
    has_owner o a i = kit.get_any [] Owners refl heap i none

    pub has_count : (o : Formula) (a : Scalar) → Has o a → Has (f.count h o) (Int (k.get (referent a)).count)
    has_count o a i = kit.get_any [] Counts refl heap i none

    pub is_owned : (o q : Formula) (a b : Scalar) → Has o a → Has q b → Is (f.owns h o q) (is_in (referent b) (k.get (referent a)).owned)
    is_owned o q a b i j = subst (λ t. Is (f.owns h o q) t) (says_one (is_in (referent b) (k.get (referent a)).owned)) (truths.is_eq l e (f.get f.owned_column h (o ∷ q ∷ [])) (nat 1) (says (is_in (referent b) (k.get (referent a)).owned)) (Int (pos 1)) (kit.get_any (q ∷ []) OwnedSets refl heap i (one j)) (truths.has_int l e (pos 1)))

    pub is_listed : (o q : Formula) (a b : Scalar) → Has o a → Has q b → Is (f.lists h o q) (is_in (referent b) (k.get (referent a)).listed)
    is_listed o q a b i j = subst (λ t. Is (f.lists h o q) t) (says_one (is_in (referent b) (k.get (referent a)).listed)) (truths.is_eq l e (f.get f.listed_column h (o ∷ q ∷ [])) (nat 1) (says (is_in (referent b) (k.get (referent a)).listed)) (Int (pos 1)) (kit.get_any (q ∷ []) ClaimedSets refl heap i (one j)) (truths.has_int l e (pos 1)))

    pub has_field : (o : Formula) (a : Scalar) (g : ℕ) → nat_lt g (length l.program.fields.items) ≡ true → Has o a → Has (f.get (f.field_column g) h (o ∷ [])) (read l.program k (referent a) g)
    has_field o a g in_table i = kit.get_any [] (Field g) (field_column l.program g in_table) heap i none

    pub is_shape : (o : Formula) (a : Scalar) (n : ℕ) (xs : List Formula) (vs : List Value) → nat_lt n (length l.program.shapes.items) ≡ true → Has o a → HaveAll l e (row xs) vs → Is (f.has_shape l.program h o n xs) (has_entry (record { shape = n; values = map scalar vs }) (k.get (referent a)).shapes)
    is_shape o a n xs vs in_table i js =
        subst (λ t. Is (f.has_shape l.program h o n xs) t) (says_one (has_entry (record { shape = n; values = map scalar vs }) (k.get (referent a)).shapes))
        (truths.is_eq l e (f.get (f.shape_column l.program n) h (o ∷ xs)) (nat 1) (says (has_entry (record { shape = n; values = map scalar vs }) (k.get (referent a)).shapes)) (Int (pos 1)) (node_has (more heap (more i js)) (ap (λ c. read_in c (HeapValue (raw l.program k) ∷ PlainValue a ∷ vs)) (sym (shape_column l.program n in_table)))) (truths.has_int l e (pos 1)))

    -- Status.
    pub is_closed_term : (o : Formula) (a : Scalar) → Has o a → Is (f.closed h o) (closed_in k (referent a))
    is_closed_term o a i = subst (λ t. Is (f.closed h o) t) (closed_two (k.get (referent a)).mode) (truths.is_eq l e (f.mode h o) (nat 2) (Int (mode_number (k.get (referent a)).mode)) (Int (pos 2)) (has_mode o a i) (truths.has_int l e (pos 2)))

    pub is_owned_by : (o t : Formula) (a : Scalar) (r : Ref) → Has o a → Has t (Refers r) → Is (eq (f.owner h o) t) (same_ref (k.get (referent a)).owner r)
    is_owned_by o t a r i j = truths.is_eq l e (f.owner h o) t (Refers (k.get (referent a)).owner) (Refers r) (has_owner o a i) j

    pub is_mutable : (o t : Formula) (a : Scalar) (r : Ref) → Has o a → Has t (Refers r) → Is (f.mutable t h o) (mutable r k (referent a))
    is_mutable o t a r i j =
        truths.is_and l e (eq (f.mode h o) (nat 1)) (eq (f.owner h o) t) (is_open (k.get (referent a)).mode) (same_ref (k.get (referent a)).owner r)
        (subst (λ s. Is (eq (f.mode h o) (nat 1)) s) (open_one (k.get (referent a)).mode) (truths.is_eq l e (f.mode h o) (nat 1) (Int (mode_number (k.get (referent a)).mode)) (Int (pos 1)) (has_mode o a i) (truths.has_int l e (pos 1)))) (is_owned_by o t a r i j)

    pub is_wrapped : (o t : Formula) (a : Scalar) (r : Ref) → Has o a → Has t (Refers r) → Is (f.wrapped t h o) (wrapped r k (referent a))
    is_wrapped o t a r i j = truths.is_and l e (f.closed h o) (eq (f.owner h o) t) (closed_in k (referent a)) (same_ref (k.get (referent a)).owner r) (is_closed_term o a i) (is_owned_by o t a r i j)

    pub is_unclaimed : (o : Formula) (a : Scalar) → Has o a → Is (eq (f.count h o) (nat 0)) (is_zero_int (k.get (referent a)).count)
    is_unclaimed o a i = truths.is_eq l e (f.count h o) (nat 0) (Int (k.get (referent a)).count) (Int (pos 0)) (has_count o a i) (truths.has_int l e (pos 0))

    pub is_wrapped0 : (o t : Formula) (a : Scalar) (r : Ref) → Has o a → Has t (Refers r) → Is (f.and' (f.closed h o) (f.and' (eq (f.owner h o) t) (eq (f.count h o) (nat 0)))) (wrapped0 r k (referent a))
    is_wrapped0 o t a r i j =
        subst (λ s. Is (f.and' (f.closed h o) (f.and' (eq (f.owner h o) t) (eq (f.count h o) (nat 0)))) s) (sym (and_assoc (closed_in k (referent a)) (same_ref (k.get (referent a)).owner r) (is_zero_int (k.get (referent a)).count)))
        (truths.is_and l e (f.closed h o) (f.and' (eq (f.owner h o) t) (eq (f.count h o) (nat 0))) (closed_in k (referent a)) (same_ref (k.get (referent a)).owner r && is_zero_int (k.get (referent a)).count) (is_closed_term o a i)
        (truths.is_and l e (eq (f.owner h o) t) (eq (f.count h o) (nat 0)) (same_ref (k.get (referent a)).owner r) (is_zero_int (k.get (referent a)).count) (is_owned_by o t a r i j) (is_unclaimed o a i)))

    -- a field's value as what it stands for
    pub field_stands : (o : Formula) (a : Scalar) (g : ℕ) → Near l.program k → nat_lt g (length l.program.fields.items) ≡ true → Has o a → StandsFor Is Has (symbolic_of_type (type_of_field l.program g) (f.get (f.field_column g) h (o ∷ []))) (read l.program k (referent a) g)
    field_stands o a g proper in_table i = by_type (type_of_field l.program g) (read l.program k (referent a) g) (field_near l.program k proper g (referent a)) (has_field o a g in_table i)
      where
        by_type : (ty : DeclaredType) (v : Scalar) → has_sort (sort_of_type ty) v ≡ true → Has (f.get (f.field_column g) h (o ∷ [])) v → StandsFor Is Has (symbolic_of_type ty (f.get (f.field_column g) h (o ∷ []))) v
        by_type (Integer c) (Int z) s j = (z, j, refl)
        by_type (Integer c) (Refers r) s j = absurd (cc)
        by_type (Pointer n) (Int z) s j = absurd (cc)
        by_type (Pointer n) (Refers r) s j = (r, j, refl)
        by_type Object (Int z) s j = absurd (cc)
        by_type Object (Refers r) s j = (r, j, refl)
        by_type Claim (Int z) s j = absurd (cc)
        by_type Claim (Refers r) s j = (r, j, refl)

  has_type : (o : Formula) (r : Ref) → Has o (Refers r) → Has (typ o) (Int (pos r.ty))
  has_type o r i = node_has (one i) refl

  is_null_term : (o : Formula) (r : Ref) → Has o (Refers r) → Is (eq o null) (is_null r)
  is_null_term o r i = truths.is_eq l e o null (Refers r) (Refers null_ref) i (truths.has_null l e)

  is_type_term : (o : Formula) (r : Ref) (n : ℕ) → Has o (Refers r) → Is (eq (typ o) (nat n)) (r.ty == n)
  is_type_term o r n i = truths.is_eq l e (typ o) (nat n) (Int (pos r.ty)) (Int (pos n)) (has_type o r i) (truths.has_int l e (pos n))

  -- the range of a type of references
  pub is_ref_in_type : (ty : DeclaredType) (o : Formula) (r : Ref) → is_ref_type ty ≡ true → is_reference r ≡ true → Has o (Refers r) → Is (all_of (ranges ty o)) (in_type ty (Refers r))
  unfolding in_type
  is_ref_in_type (Integer c) o r t named i = absurd (cc)
  is_ref_in_type (Pointer n) o r t named i = truths.is_or l e (eq o null) (eq (typ o) (nat n)) (is_null r) (r.ty == n) (is_null_term o r i) (is_type_term o r n i)
  is_ref_in_type Object o r t named i = subst (λ s. Is (not' (eq (typ o) (nat 1))) (s && not (is_thread r))) (sym named) (truths.is_not l e (eq (typ o) (nat 1)) (r.ty == 1) (is_type_term o r 1 i))
  is_ref_in_type Claim o r t named i = truths.is_or l e (eq o null) (eq (typ o) (nat 2)) (is_null r) (r.ty == 2) (is_null_term o r i) (is_type_term o r 2 i)

  -- these terms have these references
  abbrev pub AreRefs : List Formula → List Ref → Type 0
  AreRefs [] [] = Unit {0}
  AreRefs [] (r ∷ rs) = ⊥
  AreRefs (w ∷ ws) [] = ⊥
  AreRefs (w ∷ ws) (r ∷ rs) = Has w (Refers r) × AreRefs ws rs

  -- writable: among those, or not the thread's at the entry
  pub is_writable : (h : Formula) (k : Heap) → truths.HeapIs l e h k → (o t : Formula) (r s : Ref) (ws : List Formula) (rs : List Ref) → AreRefs ws rs → Has o (Refers r) → Has t (Refers s) → Is (f.writable t h ws o) (writable s k rs r)
  unfolding is_in
  is_writable h k heap o t r s ws rs are i j = by_list ws rs are
    where
      last : Is (not' (eq (f.owner h o) t)) (not (same_ref (k.get r).owner s))
      last = truths.is_not l e (eq (f.owner h o) t) (same_ref (k.get r).owner s) (is_owned_by h k heap o t (Refers r) s i j)

      by_list : (ws : List Formula) (rs : List Ref) → AreRefs ws rs → Is (any_of (is_any o ws ++ not' (eq (f.owner h o) t) ∷ [])) (is_in r rs || not (same_ref (k.get r).owner s))
      by_list [] [] are = last
      by_list [] (q ∷ rs) are = absurd are
      by_list (w ∷ ws) [] are = absurd are
      by_list (w ∷ []) (q ∷ []) are =
          subst (λ b. Is (or' (eq o w) (not' (eq (f.owner h o) t))) (b || not (same_ref (k.get r).owner s))) (sym (or-false (same_ref r q)))
          (truths.is_or l e (eq o w) (not' (eq (f.owner h o) t)) (same_ref r q) (not (same_ref (k.get r).owner s)) (truths.is_eq l e o w (Refers r) (Refers q) i are.0) last)
      by_list (w ∷ []) (q ∷ q2 ∷ rs) are = absurd are.1
      by_list (w ∷ w2 ∷ ws) (q ∷ rs) are =
          subst (λ b. Is (or' (eq o w) (any_of (is_any o (w2 ∷ ws) ++ not' (eq (f.owner h o) t) ∷ []))) b) (sym (or_assoc (same_ref r q) (is_in r rs) (not (same_ref (k.get r).owner s))))
          (truths.is_or l e (eq o w) (any_of (is_any o (w2 ∷ ws) ++ not' (eq (f.owner h o) t) ∷ [])) (same_ref r q) (is_in r rs || not (same_ref (k.get r).owner s)) (truths.is_eq l e o w (Refers r) (Refers q) i are.0) (by_list (w2 ∷ ws) rs are.1))

  -- one of these objects
  pub is_among : (o : Formula) (r : Ref) (ws : List Formula) (rs : List Ref) → AreRefs ws rs → Has o (Refers r) → Is (any_of (is_any o ws)) (is_in r rs)
  unfolding is_in
  is_among o r [] [] are i = truths.is_not l e f.true_formula true (truths.is_yes l e)
  is_among o r [] (q ∷ rs) are i = absurd are
  is_among o r (w ∷ ws) [] are i = absurd are
  is_among o r (w ∷ []) (q ∷ []) are i = subst (λ b. Is (eq o w) b) (sym (or-false (same_ref r q))) (truths.is_eq l e o w (Refers r) (Refers q) i are.0)
  is_among o r (w ∷ []) (q ∷ q2 ∷ rs) are i = absurd are.1
  is_among o r (w ∷ w2 ∷ ws) (q ∷ rs) are i = truths.is_or l e (eq o w) (any_of (is_any o (w2 ∷ ws))) (same_ref r q) (is_in r rs) (truths.is_eq l e o w (Refers r) (Refers q) i are.0) (is_among o r (w2 ∷ ws) rs are.1 i)

  -- the claim lists each of them, and what is said last is true
  pub all_listed : (h : Formula) (k : Heap) → truths.HeapIs l e h k → (c : Formula) (a : Scalar) → Has c a → (ws : List Formula) (rs : List Ref) → AreRefs ws rs → (last : Formula) (b : Bool) → Is last b → Is (all_of (map (f.lists h c) ws ++ last ∷ [])) (every (λ o. is_in o (k.get (referent a)).listed) rs && b)
  all_listed h k heap c a i [] [] are last b j = j
  all_listed h k heap c a i [] (q ∷ rs) are last b j = absurd are
  all_listed h k heap c a i (w ∷ ws) [] are last b j = absurd are
  all_listed h k heap c a i (w ∷ []) (q ∷ []) are last b j =
      subst (λ t. Is (f.and' (f.lists h c w) last) t) (sym (and_assoc (is_in q (k.get (referent a)).listed) true b)) (truths.is_and l e (f.lists h c w) last (is_in q (k.get (referent a)).listed) b (is_listed h k heap c w a (Refers q) i are.0) j)
  all_listed h k heap c a i (w ∷ []) (q ∷ q2 ∷ rs) are last b j = absurd are.1
  all_listed h k heap c a i (w ∷ w2 ∷ ws) (q ∷ rs) are last b j =
      let more = every (λ o. is_in o (k.get (referent a)).listed) rs in
      subst (λ t. Is (f.and' (f.lists h c w) (all_of (map (f.lists h c) (w2 ∷ ws) ++ last ∷ []))) t) (sym (and_assoc (is_in q (k.get (referent a)).listed) more b))
      (truths.is_and l e (f.lists h c w) (all_of (map (f.lists h c) (w2 ∷ ws) ++ last ∷ [])) (is_in q (k.get (referent a)).listed) (more && b) (is_listed h k heap c w a (Refers q) i are.0) (all_listed h k heap c a i (w2 ∷ ws) rs are.1 last b j))
