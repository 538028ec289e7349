-- The formulas of the sample program say what its annotations say: the premises of the axioms can be met.
use Rattle.std.proofs.Common.{◌≡◌, ℕ, zero, suc, ◌==◌, ◌-◌, nat_le, Bool, true, false, not, cond, ◌&&◌, ◌||◌, inl, inr, List, [], ◌∷◌, map, ℤ, pos, ◌≤ℤ◌, Option, Some, None, slice_get, IsTrue, refl, sym, ap, ◌∙◌, subst, arith}
use Rattle.std.specs.Prelude.{int_le}
use Rattle.std.proofs.lemmas.Int.{ints}
use Rattle.std.proofs.lemmas.Bool.{and_parts, and_from, or_cases, or_left, or_right, eqb-true, eq-eqb}
use Rattle.object_types.specs.declared.references.Ref.{Ref}
use Rattle.object_types.specs.declared.values.Value.{Value as Scalar}
use Rattle.object_types.specs.declared.values.Value.TheVariants.{Int, Ref as Refers}
use Rattle.object_types.specs.References.{null, is_null, same_ref, is_reference}
use Rattle.object_types.specs.Values.{truth as scalar_truth, says, same_value, int}
use Rattle.object_types.specs.Sets.{is_in, every}
use Rattle.object_types.specs.Heap.{Heap}
use Rattle.object_types.proofs.Orders.{value_order}
use Rattle.method.specs.declared.program.DeclaredType.TheVariants.{Pointer}
use Rattle.method.specs.Tables.{in_type, read}
use Rattle.method.specs.SpecValue.{shape_holds}
use Rattle.method.specs.Invariants.{struct_holds, inv_scene}
use Rattle.method.specs.WellFormed.{have_sorts}
use Rattle.method.specs.Trace.{Memory}
use Rattle.method.proofs.Global.{same_ref_is, same_ref_self, same_value_is}
use Rattle.terms.specs.declared.term.Kind.TheVariants as k'
use Rattle.terms.specs.Formula.{Formula}
use Rattle.term_meaning.specs.Columns.{Field, OwnedSets, holes}
use Rattle.term_meaning.specs.RawHeaps.{RawHeap, Shows, raw}
use Rattle.term_meaning.specs.Meaning.{Quantified, Value, PlainValue, HeapValue, scalar, truth, argument, ref_value, int_value, env_of, Language, AllHolds, Says, StructSays, IsFaithful, IsValid, ForEach}
use Rattle.term_meaning.specs.Filling.{IsLayered, speaks_from, trees}
use Rattle.term_meaning.proofs.Filled.{says_by, truth_of_says}
use Rattle.axiom_instances.specs.Terms.{imp, either, eq, typ, num}
use Rattle.axiom_instances.specs.Axioms.{instance}
use Rattle.axiom_instances.proofs.All.{axioms_are_true}
use Rattle.axiom_instances.specs.Rows.{node, sample, sample_language}
use Rattle.axiom_instances.proofs.Kit.{Has, HaveAll, Holds, Given, one, none, more, node_has, node_holds, node_value, with_value, imp_holds, imp_elim, left_holds, right_holds, either_given, eq_given, eq_holds, eq_elim, le_holds, le_elim, num_has, get_has}
use Rattle.axiom_instances.proofs.Facts.{refers_is, type_given, type_holds, null_has, says_one, one_of}
use Rattle.axiom_instances.proofs.Heaps.{int_le_is}

truth_says : (b : Bool) → scalar_truth (says b) ≡ b
truth_says true = refl
truth_says false = refl

int_le_from : (a b : ℤ) → a ≤ℤ b → int_le a b ≡ true
int_le_from a b h = grind (arith, ints)

no_both : (b : Bool) → b && false ≡ true → ⊥
no_both true h = cc
no_both false h = cc

and_true : (b : Bool) → (b && true) ≡ b
and_true true = refl
and_true false = refl

every_in : (test : Ref → Bool) (q : Ref) (xs : List Ref) → every test xs ≡ true → is_in q xs ≡ true → test q ≡ true
unfolding is_in
every_in test q [] h m = absurd (cc)
every_in test q (x ∷ xs) h m =
    let p = and_parts (test x) (every test xs) h in
    elim (or_cases (same_ref q x) (is_in q xs) m) [
      | inl s ↦ ap test (same_ref_is q x s) ∙ p.0
      | inr n ↦ every_in test q xs p.1 n
    ]

every_from : (test : Ref → Bool) (xs : List Ref) → ((q : Ref) → is_in q xs ≡ true → test q ≡ true) → every test xs ≡ true
unfolding is_in
every_from test [] h = refl
every_from test (x ∷ xs) h = and_from _ _ (h x (or_left _ _ (same_ref_self x))) (every_from test xs (λ q m. h q (or_right _ _ m)))

at_every : {X : Type 0} (test : X → Bool) (xs : List X) → every test xs ≡ true → (n : ℕ) (x : X) → slice_get xs n ≡ Some x → test x ≡ true
at_every test [] h n x is = absurd (cc)
at_every test (y ∷ xs) h zero x is = let same : y ≡ x = cc in ap test (sym same) ∙ (and_parts (test y) (every test xs) h).0
at_every test (y ∷ xs) h (suc n) x is = at_every test xs (and_parts (test y) (every test xs) h).1 n x is

abbrev Both : Type 0 → Type 0 → Type 0
Both A B = (A → B) × (B → A)

abbrev cr : ℕ → Formula
cr n = node k'.Cr (pos n) []

abbrev ch : ℕ → Formula
ch n = node k'.Ch (pos n) []

abbrev field_of : ℕ → Formula → Formula → Formula
field_of n h o = node k'.Get (pos n) (h ∷ o ∷ [])

abbrev at_most_formula : Formula
at_most_formula = node k'.Le (pos 0) (field_of 5 (ch 2) (cr 0) ∷ field_of 6 (ch 2) (cr 0) ∷ [])

abbrev alike_formula : Formula
alike_formula = node k'.All (pos 0) (ch 2 ∷ cr 0 ∷ [])

abbrev alike_body : Formula
alike_body = imp (either (eq (cr 2) (node k'.Null (pos 0) [])) (eq (typ (cr 2)) (num (pos 3)))) (imp (eq (node k'.Get (pos 3) (ch 0 ∷ cr 1 ∷ cr 2 ∷ [])) (num (pos 1))) (eq (field_of 5 (ch 0) (cr 2)) (field_of 7 (ch 0) (cr 1))))

abbrev holds_formula : Formula
holds_formula = eq (field_of 5 (ch 0) (cr 1)) (node k'.Ci (pos 2) [])

module _ (m : Memory) where
  pub layered : IsLayered (sample_language m)
  layered = record {
    bodies = bodies;
    invariants = at_every (speaks_from 0) (sample_language m).invariants refl;
    conjuncts = at_every (speaks_from 0) (sample_language m).conjuncts refl;
  }
    where
      bodies : (n : ℕ) (q : Quantified) → slice_get (sample_language m).quantified n ≡ Some q → speaks_from (suc n) q.body ≡ true
      bodies zero q is = at_every (λ (q : Quantified). speaks_from 1 q.body) (sample_language m).quantified refl 0 q is
      bodies (suc n) q is = absurd (cc)

  -- the sample's language behind its one quantified formula
  abbrev inner : Language
  inner = record { program = sample m; quantified = []; invariants = []; conjuncts = [] }

  says_if : (l : Language) (me : Ref) (f : Formula) (vs : List Value) → speaks_from 0 f ≡ true → Holds l (env_of me vs) f → Says l me f vs
  says_if l me f vs s h = says_by l me f vs s (λ y g. h.always y g)

  if_says : (l : Language) (me : Ref) (f : Formula) (vs : List Value) → speaks_from 0 f ≡ true → Says l me f vs → Holds l (env_of me vs) f
  if_says l me f vs s h = record { always = truth_of_says l me f vs s h }

  -- constants of the sort of heaps and of references
  module _ (l : Language) (me : Ref) (vs : List Value) where
    cr_has : (n : ℕ) (r : Ref) → argument vs n ≡ ref_value r → Has l (env_of me vs) (cr n) (ref_value r)
    cr_has n r e = node_has none (sym e)

    ch_has : (n : ℕ) (x : RawHeap) → argument vs n ≡ HeapValue x → Has l (env_of me vs) (ch n) (HeapValue x)
    ch_has n x e = node_has none (sym e)

  module _ (me o : Ref) (h k : Heap) (x y : RawHeap) (shows : Shows (sample m) k y) where
    abbrev vs : List Value
    vs = ref_value o ∷ HeapValue x ∷ HeapValue y ∷ []

    heap_has : Has (sample_language m) (env_of me vs) (ch 2) (HeapValue (raw (sample m) k))
    heap_has = ch_has (sample_language m) me vs 2 (raw (sample m) k) (ap HeapValue shows.is)

    this_has : Has (sample_language m) (env_of me vs) (cr 0) (ref_value o)
    this_has = cr_has (sample_language m) me vs 0 o refl

    x_has : Has (sample_language m) (env_of me vs) (field_of 5 (ch 2) (cr 0)) (PlainValue (read (sample m) k o 0))
    x_has = get_has [] (Field 0) refl heap_has this_has none

    v_has : Has (sample_language m) (env_of me vs) (field_of 6 (ch 2) (cr 0)) (PlainValue (read (sample m) k o 1))
    v_has = get_has [] (Field 1) refl heap_has this_has none

    -- \this->x <= \this->v
    at_most_says : Both (IsTrue (struct_holds (sample m) (slice_get (sample m).structs.items 0) (inv_scene o h k))) (StructSays (sample_language m) me (slice_get (sample_language m).invariants 0) o x y)
    at_most_says = (
      λ t. says_if (sample_language m) me at_most_formula vs refl (le_holds x_has v_has (int_le_is a b (sym (truth_says (int_le a b)) ∙ sym (and_true _) ∙ t))),
      λ s. le_elim (scalar_truth (says (int_le a b)) && true) x_has v_has (if_says (sample_language m) me at_most_formula vs refl s) (λ n. and_true _ ∙ truth_says (int_le a b) ∙ int_le_from a b n),
    )
      where
        a : ℤ
        a = int (read (sample m) k o 0)

        b : ℤ
        b = int (read (sample m) k o 1)

    -- of one member
    abbrev alike : Ref → Bool
    alike q = not (in_type (Pointer 3) (Refers q)) || scalar_truth (says (same_value (read (sample m) k q 0) (read (sample m) k o 2)))

    module _ (q : Ref) where
      abbrev us : List Value
      us = HeapValue y ∷ ref_value o ∷ ref_value q ∷ []

      heap0 : Has inner (env_of me us) (ch 0) (HeapValue (raw (sample m) k))
      heap0 = ch_has inner me us 0 (raw (sample m) k) (ap HeapValue shows.is)

      object1 : Has inner (env_of me us) (cr 1) (ref_value o)
      object1 = cr_has inner me us 1 o refl

      member2 : Has inner (env_of me us) (cr 2) (ref_value q)
      member2 = cr_has inner me us 2 q refl

      owned_has : Has inner (env_of me us) (node k'.Get (pos 3) (ch 0 ∷ cr 1 ∷ cr 2 ∷ [])) (PlainValue (says (is_in q (k.get o).owned)))
      owned_has = get_has (cr 2 ∷ []) OwnedSets refl heap0 object1 (one member2)

      left_has : Has inner (env_of me us) (field_of 5 (ch 0) (cr 2)) (PlainValue (read (sample m) k q 0))
      left_has = get_has [] (Field 0) refl heap0 member2 none

      right_has : Has inner (env_of me us) (field_of 7 (ch 0) (cr 1)) (PlainValue (read (sample m) k o 2))
      right_has = get_has [] (Field 2) refl heap0 object1 none

      ranged : Given inner (env_of me us) (either (eq (cr 2) (node k'.Null (pos 0) [])) (eq (typ (cr 2)) (num (pos 3)))) → in_type (Pointer 3) (Refers q) ≡ true
      unfolding in_type
      ranged g = elim (either_given g) [
        | inl n ↦ or_left (is_null q) (q.ty == 3) (ap (λ r. is_null r) (refers_is q null (eq_given member2 null_has n)) ∙ same_ref_self null)
        | inr t ↦ or_right (is_null q) (q.ty == 3) (eq-eqb q.ty 3 (type_given member2 t))
      ]

      in_range : in_type (Pointer 3) (Refers q) ≡ true → Holds inner (env_of me us) (either (eq (cr 2) (node k'.Null (pos 0) [])) (eq (typ (cr 2)) (num (pos 3))))
      unfolding in_type
      in_range t = elim (or_cases (is_null q) (q.ty == 3) t) [
        | inl n ↦ left_holds (eq_holds member2 null_has (ap ref_value (same_ref_is q null n)))
        | inr n ↦ right_holds (type_holds member2 (eqb-true q.ty 3 n))
      ]

      body_holds : every alike (k.get o).owned ≡ true → Holds inner (env_of me us) alike_body
      body_holds all = imp_holds (λ r. imp_holds (λ n.
          let here : is_in q (k.get o).owned ≡ true = says_one _ (eq_given owned_has (num_has (pos 1)) n) in
          let same : scalar_truth (says (same_value (read (sample m) k q 0) (read (sample m) k o 2))) ≡ true = by_range (in_type (Pointer 3) (Refers q)) (ranged r) (every_in alike q (k.get o).owned all here) in
          eq_holds left_has right_has (ap PlainValue (same_value_is _ _ (sym (truth_says _) ∙ same)))))
        where
          by_range : (b : Bool) {c : Bool} → b ≡ true → (not b || c) ≡ true → c ≡ true
          by_range true e h = h
          by_range false e h = absurd (cc)

      body_alike : Holds inner (env_of me us) alike_body → is_in q (k.get o).owned ≡ true → alike q ≡ true
      body_alike body here = by_range (in_type (Pointer 3) (Refers q)) (λ t. eq_elim _ left_has right_has (imp_elim (imp_elim body (in_range t)) (eq_holds owned_has (num_has (pos 1)) (one_of _ here))) (λ e. truth_says _ ∙ same_by e))
        where
          by_range : (b : Bool) {c : Bool} → (b ≡ true → c ≡ true) → (not b || c) ≡ true
          by_range true h = h refl
          by_range false h = refl

          same_by : {a b : Scalar} → PlainValue a ≡ PlainValue b → same_value a b ≡ true
          same_by {a} {b} e = subst (λ c. same_value a (scalar c) ≡ true) e (value_order.itself a)

    -- \forall struct A *p; p \in \this->\owns ==> p->x == n
    alike_says : Both (IsTrue (struct_holds (sample m) (slice_get (sample m).structs.items 1) (inv_scene o h k))) (StructSays (sample_language m) me (slice_get (sample_language m).invariants 1) o x y)
    alike_says = (
      λ t. says_if (sample_language m) me alike_formula vs refl (node_holds args (λ z d. d.holds (λ q i. says_if inner me alike_body (us q) refl (body_holds q (sym (truth_says _) ∙ sym (and_true _) ∙ t))))),
      λ s. with_value alike_formula (scalar_truth (says (every alike (k.get o).owned)) && true) (λ z v.
          let each : ForEach (λ q. AllHolds (sample_language m) me 0 (HeapValue y ∷ ref_value o ∷ ref_value q ∷ [])) = (node_value args v).yes ((if_says (sample_language m) me alike_formula vs refl s).always z v.value) in
          and_true _ ∙ truth_says _ ∙ every_from alike (k.get o).owned (λ q here. body_alike q (if_says inner me alike_body (us q) refl (each q (members_are q here))) here)),
    )
      where
        args : HaveAll (sample_language m) (env_of me vs) (trees (ch 2 ∷ cr 0 ∷ [])) (HeapValue y ∷ ref_value o ∷ [])
        args = more (ch_has (sample_language m) me vs 2 y refl) (one this_has)

        members_are : (q : Ref) → is_in q (k.get o).owned ≡ true → is_reference q ≡ true
        members_are q here = every_in is_reference q (k.get o).owned (shows.proper.owned_are o) here

    -- no invariant
    nothing_says : Both (IsTrue (struct_holds (sample m) (slice_get (sample m).structs.items 2) (inv_scene o h k))) (StructSays (sample_language m) me (slice_get (sample_language m).invariants 2) o x y)
    nothing_says = (λ t z g. ap truth g.2, λ s. refl)

    struct_says : (b : Bool) (i : ℕ) → Both (IsTrue (struct_holds (sample m) (cond b (slice_get (sample m).structs.items i) None) (inv_scene o h k))) (StructSays (sample_language m) me (cond b (slice_get (sample_language m).invariants i) None) o x y)
    struct_says true zero = at_most_says
    struct_says true (suc zero) = alike_says
    struct_says true (suc (suc zero)) = nothing_says
    struct_says true (suc (suc (suc i))) = ((λ t. tt), λ u. refl)
    struct_says false i = ((λ t. tt), λ u. refl)

  -- p->x == k
  conjunct_says : (me : Ref) (n : ℕ) (f : Formula) (h : Heap) (x : RawHeap) (values : List Scalar) → Shows (sample m) h x → slice_get (sample_language m).conjuncts n ≡ Some f → IsTrue (have_sorts (holes (slice_get (sample m).shapes.items n)) values) → Both (IsTrue (shape_holds (sample m) (slice_get (sample m).shapes.items n) h values)) (Says (sample_language m) me f (HeapValue x ∷ map PlainValue values))
  conjunct_says me (suc n) f h x values shows is sorts = absurd (cc)
  conjunct_says me zero f h x (Refers r ∷ Int z ∷ []) shows is sorts =
      let same : holds_formula ≡ f = cc in
      subst (λ f. Both (IsTrue (shape_holds (sample m) (slice_get (sample m).shapes.items 0) h (Refers r ∷ Int z ∷ []))) (Says (sample_language m) me f (HeapValue x ∷ map PlainValue (Refers r ∷ Int z ∷ [])))) same (
        λ t. says_if (sample_language m) me holds_formula ws refl (eq_holds left right (ap PlainValue (same_value_is _ _ (sym (truth_says _) ∙ t)))),
        λ s. eq_elim _ left right (if_says (sample_language m) me holds_formula ws refl s) (λ e. truth_says _ ∙ same_by e),
      )
    where
      ws : List Value
      ws = HeapValue x ∷ ref_value r ∷ int_value z ∷ []

      left : Has (sample_language m) (env_of me (HeapValue x ∷ ref_value r ∷ int_value z ∷ [])) (field_of 5 (ch 0) (cr 1)) (PlainValue (read (sample m) h r 0))
      left = get_has [] (Field 0) refl (ch_has (sample_language m) me (HeapValue x ∷ ref_value r ∷ int_value z ∷ []) 0 (raw (sample m) h) (ap HeapValue shows.is)) (cr_has (sample_language m) me (HeapValue x ∷ ref_value r ∷ int_value z ∷ []) 1 r refl) none

      right : Has (sample_language m) (env_of me (HeapValue x ∷ ref_value r ∷ int_value z ∷ [])) (node k'.Ci (pos 2) []) (int_value z)
      right = node_has none refl

      same_by : {a b : Scalar} → PlainValue a ≡ PlainValue b → same_value a b ≡ true
      same_by {a} {b} e = subst (λ c. same_value a (scalar c) ≡ true) e (value_order.itself a)
  conjunct_says me zero f h x [] shows is sorts = absurd (cc)
  conjunct_says me zero f h x (Int z ∷ values) shows is sorts = absurd (cc)
  conjunct_says me zero f h x (Refers r ∷ []) shows is sorts = absurd (no_both (is_reference r) sorts)
  conjunct_says me zero f h x (Refers r ∷ Refers q ∷ values) shows is sorts = absurd (no_both (is_reference r) sorts)
  conjunct_says me zero f h x (Refers r ∷ Int z ∷ v ∷ values) shows is sorts = absurd (no_both (is_reference r) sorts)

  pub faithful : IsFaithful (sample_language m)
  faithful = record {
    each_shape = refl;
    invariant = λ me o h k x y t a b. struct_says me o h k x y b (nat_le 3 o.ty) (o.ty - 3);
    conjunct = λ me n f h x vs t a is sorts. conjunct_says me n f h x vs a is sorts;
  }

  -- so the axioms are true of the sample with no premise left
  pub sample_axioms : (tree : ℕ → Option Formula) (number part : ℕ) (args : List ℕ) (f : Formula) → instance (sample_language m) tree number part args ≡ Some f → IsValid (sample_language m) f
  sample_axioms = axioms_are_true (sample_language m) layered faithful
