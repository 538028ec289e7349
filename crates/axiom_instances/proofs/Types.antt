-- A type's conditions mean that it is admissible.
use Rattle.std.proofs.Common.{◌≡◌, ℕ, zero, suc, Bool, true, false, not, cond, ◌||◌, ℤ, pos, negsuc, refl, sym, ap, ◌∙◌, inl, inr}
use Rattle.std.proofs.lemmas.Bool.{eqb-true}
use Rattle.object_types.specs.declared.references.Ref.{Ref}
use Rattle.object_types.specs.References.{thread, is_reference, is_claim}
use Rattle.object_types.specs.Heap.{Heap, Record, closed_in, is_closed as closed_mode}
use Rattle.method.specs.declared.program.Program.{Program}
use Rattle.method.specs.Tables.{is_struct, struct_of}
use Rattle.method.specs.WellFormed.{WellFormed, IsHeapOf}
use Rattle.method.specs.Invariants.{Inv, inv_holds, struct_holds, claim_holds, inv_scene}
use Rattle.method.proofs.Global.{test_cases}
use Rattle.terms.specs.declared.term.Kind.{Kind}
use Rattle.terms.specs.declared.term.Kind.TheVariants as k
use Rattle.terms.specs.Formula.{Formula}
use Rattle.term_meaning.specs.RawHeaps.{RawHeap, raw, Shows}
use Rattle.term_meaning.specs.RawRelations.{IsTouched}
use Rattle.term_meaning.specs.Meaning.{Value, HeapValue, Env, IsEnv, ref_value, int_value, Language, IsFaithful, InvHolds, If}
use Rattle.term_meaning.proofs.Related.{kept_raw, legal_raw}
use Rattle.axiom_instances.specs.Admissibility.{object, earlier_heap, later_heap, reflexive_condition, stable_condition, ReflexiveByCondition, StableByCondition}
use Rattle.axiom_instances.specs.Terms.{inv, kept, legal, touched}
use Rattle.axiom_instances.proofs.Kit.{Has, Holds, Given, one, none, more, node_given, node_holds, node_has, node_value, with_value, imp_elim, both_hold, no_holds}
use Rattle.axiom_instances.proofs.Facts.{Shown, good_holds, closed_holds, type_holds}
use Rattle.axiom_instances.proofs.Invariants.{untouched_raw}

-- A well-formed heap is a heap of the program.

pub well_formed_proper : (p : Program) (h : Heap) → WellFormed p h → IsHeapOf p h
well_formed_proper p h w = w.heap_of

-- What stands for the constants in a type's conditions.

unfoldable pub two_heaps : RawHeap → RawHeap → ℤ → Value
two_heaps x y (pos zero) = HeapValue x
two_heaps x y (pos (suc n)) = HeapValue y
two_heaps x y (negsuc n) = HeapValue x

abbrev pub constants : Ref → RawHeap → RawHeap → Kind → ℤ → Value
constants o x y k.Cr n = ref_value o
constants o x y k.Ch n = two_heaps x y n
constants o x y kind n = int_value (pos 0)

abbrev pub of_step : Ref → RawHeap → RawHeap → Env
of_step o x y = record { me = thread 1; constant = constants o x y }

two_of : (P : Value → Type 0) (x y : RawHeap) → P (HeapValue x) → P (HeapValue y) → (n : ℤ) → P (two_heaps x y n)
unfolding two_heaps
two_of P x y a b (pos zero) = a
two_of P x y a b (pos (suc n)) = b
two_of P x y a b (negsuc n) = a

pub of_step_is_env : (p : Program) (o : Ref) (h k : Heap) → is_reference o ≡ true → IsHeapOf p h → IsHeapOf p k → IsEnv p (of_step o (raw p h) (raw p k))
of_step_is_env p o h k i a b = record {
  me = refl;
  integers = λ n. (pos 0, refl);
  references = λ n. (o, refl, i);
  heaps = two_of (λ v. (g : Heap) × (x : RawHeap) × (v ≡ HeapValue x) × Shows p g x) (raw p h) (raw p k) (h, raw p h, refl, record { proper = a; is = refl }) (k, raw p k, refl, record { proper = b; is = refl });
}

pub earlier_has : (l : Language) (o : Ref) (x y : RawHeap) → Has l (of_step o x y) earlier_heap (HeapValue x)
unfolding two_heaps
earlier_has l o x y = node_has none refl

-- what is closed has a name
closed_proper : (p : Program) (h : Heap) (o : Ref) → WellFormed p h → closed_in h o ≡ true → is_reference o ≡ true
closed_proper p h o w c = elim (test_cases (is_reference o)) [
  | inl i ↦ i
  | inr n ↦ absurd (let open_ : false ≡ true = ap (λ (r : Record). closed_mode r.mode) (sym (w.heap_of.nowhere_else o n)) ∙ c in cc)
]

-- no struct is a claim
struct_no_claim : (p : Program) (o : Ref) (ty : ℕ) → is_struct p ty ≡ true → o.ty ≡ ty → is_claim o ≡ false
struct_no_claim p o ty s e = elim (test_cases (is_claim o)) [
  | inl c ↦ absurd (none (ap (λ ty. is_struct p ty) (sym (eqb-true o.ty 2 c) ∙ e) ∙ s))
  | inr n ↦ n
]
  where
    none : is_struct p 2 ≡ true → ⊥
    none h = cc

module _ {l : Language} (faithful : IsFaithful l) (o : Ref) (h k : Heap) (a : IsHeapOf l.program h) (b : IsHeapOf l.program k) (i : is_reference o ≡ true) where
  env : Env
  env = of_step o (raw l.program h) (raw l.program k)

  object_has : Has l (of_step o (raw l.program h) (raw l.program k)) object (ref_value o)
  object_has = node_has none refl

  earlier_shown : Shown l (of_step o (raw l.program h) (raw l.program k)) earlier_heap h
  unfolding two_heaps
  earlier_shown = record { has = node_has none refl; proper = a }

  later_shown : Shown l (of_step o (raw l.program h) (raw l.program k)) later_heap k
  unfolding two_heaps
  later_shown = record { has = node_has none refl; proper = b }

  -- from the columns back to the heaps
  says_inv : (g j : Heap) → IsHeapOf l.program g → IsHeapOf l.program j → is_claim o ≡ false → InvHolds l (thread 1) o (raw l.program g) (raw l.program j) → Inv l.program o g j
  unfolding inv_holds
  says_inv g j c d n says = ap (λ b. cond b (not (closed_in j o) || claim_holds l.program o j) (struct_holds l.program (struct_of l.program o.ty) (inv_scene o g j))) n ∙ (faithful.invariant (thread 1) o g j (raw l.program g) (raw l.program j) refl (record { proper = c; is = refl }) (record { proper = d; is = refl })).1 (by_test (is_claim o) _ _ n says)
    where
      by_test : (t : Bool) (A B : Type 0) → t ≡ false → If t A B → B
      by_test true A B e s = absurd (cc)
      by_test false A B e s = s

  inv_from : {f g : Formula} (c d : Heap) → Shown l (of_step o (raw l.program h) (raw l.program k)) f c → Shown l (of_step o (raw l.program h) (raw l.program k)) g d → is_claim o ≡ false → Holds l (of_step o (raw l.program h) (raw l.program k)) (inv object f g) → Inv l.program o c d
  inv_from {f} {g} c d s t n holds = with_value (inv object f g) (inv_holds l.program o c d) (λ z v. says_inv c d s.proper t.proper n ((node_value (more object_has (more s.has (one t.has))) v).yes (holds.always z v.value)))

pub reflexive_by_condition : ReflexiveByCondition
reflexive_by_condition l faithful ty struct valid h0 h1 good kept' o same shut =
    let w1 = kept'.well_formed.after in
    let a : IsHeapOf l.program h0 = well_formed_proper l.program h0 good.well_formed in
    let b : IsHeapOf l.program h1 = well_formed_proper l.program h1 w1 in
    let i : is_reference o ≡ true = closed_proper l.program h1 o w1 shut in
    let e : Env = of_step o (raw l.program h0) (raw l.program h1) in
    let holds : Holds l e (reflexive_condition ty) = record { always = λ x g. valid e x (of_step_is_env l.program o h0 h1 i a b) g } in
    let s0 = earlier_shown {l = l} faithful o h0 h1 a b i in
    let s1 = later_shown {l = l} faithful o h0 h1 a b i in
    let oh = object_has {l = l} faithful o h0 h1 a b i in
    let is_kept : Holds l e (kept earlier_heap later_heap) = node_holds (more s0.has (one s1.has)) (λ z m. m.holds (kept_raw l.program h0 h1 kept')) in
    inv_from {l = l} faithful o h0 h1 a b i h1 h1 s1 s1 (struct_no_claim l.program o ty struct same)
    (imp_elim holds (both_hold (good_holds s0 good) (both_hold is_kept (both_hold (type_holds oh same) (closed_holds s1 oh shut)))))

pub stable_by_condition : StableByCondition
stable_by_condition l faithful ty struct valid h0 h1 good legal' o same shut0 shut1 untouched =
    let w1 = legal'.well_formed.after in
    let a : IsHeapOf l.program h0 = well_formed_proper l.program h0 good.well_formed in
    let b : IsHeapOf l.program h1 = well_formed_proper l.program h1 w1 in
    let i : is_reference o ≡ true = closed_proper l.program h1 o w1 shut1 in
    let e : Env = of_step o (raw l.program h0) (raw l.program h1) in
    let holds : Holds l e (stable_condition ty) = record { always = λ x g. valid e x (of_step_is_env l.program o h0 h1 i a b) g } in
    let s0 = earlier_shown {l = l} faithful o h0 h1 a b i in
    let s1 = later_shown {l = l} faithful o h0 h1 a b i in
    let oh = object_has {l = l} faithful o h0 h1 a b i in
    let is_legal : Holds l e (legal earlier_heap later_heap) = node_holds (more s0.has (one s1.has)) (λ z m. m.holds (legal_raw l.program h0 h1 legal')) in
    let apart : Given l e (touched object earlier_heap later_heap) → ⊥ = λ g. (let d = node_given (more oh (more s0.has (one s1.has))) g in let t : IsTouched l.program o (raw l.program h0) (raw l.program h1) = d.1.yes d.2 in t (untouched_raw l.program o h0 h1 untouched)) in
    inv_from {l = l} faithful o h0 h1 a b i h0 h1 s0 s1 (struct_no_claim l.program o ty struct same)
    (imp_elim holds (both_hold (good_holds s0 good) (both_hold is_legal (both_hold (type_holds oh same) (both_hold (closed_holds s0 oh shut0) (both_hold (closed_holds s1 oh shut1) (no_holds apart)))))))
