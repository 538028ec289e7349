-- A type's conditions are no stronger than its rules. Two atoms about one heap term give two heaps with the same records, of which both are good or neither.
use Rattle.std.proofs.Common.{◌≡◌, ℕ, zero, suc, Bool, true, false, not, cond, ◌||◌, List, [], ◌∷◌, length, ℤ, pos, Option, Some, None, slice_get, refl, sym, ap, ◌∙◌, inl, inr, arith}
use Rattle.std.proofs.lemmas.Bool.{and_parts, and_from, or_cases, or_left, or_right}
use Rattle.object_types.specs.declared.references.Ref.{Ref}
use Rattle.object_types.specs.declared.values.Value.{Value as Scalar}
use Rattle.object_types.specs.declared.shapes.Entry.{Entry}
use Rattle.object_types.specs.References.{is_claim, is_thread}
use Rattle.object_types.specs.Sets.{every}
use Rattle.object_types.specs.Shapes.{same_entry, has_entry}
use Rattle.object_types.specs.Heap.{Heap, Same, closed_in}
use Rattle.object_types.proofs.Orders.{entry_order}
use Rattle.method.specs.declared.program.Shape.{Shape as ShapeInfo}
use Rattle.method.specs.Tables.{struct_of}
use Rattle.method.specs.SpecValue.{entry_holds}
use Rattle.method.specs.WellFormed.{IsHeapOf, is_entry, have_sorts}
use Rattle.method.specs.Invariants.{Inv, inv_holds, struct_holds, claim_holds, inv_scene}
use Rattle.method.specs.Legal.{Good}
use Rattle.method.specs.Admissible.{Reflexive, Stable}
use Rattle.terms.specs.declared.term.Kind.TheVariants as k
use Rattle.terms.specs.Formula.{Formula, leaf}
use Rattle.term_meaning.specs.Columns.{holes}
use Rattle.term_meaning.specs.RawHeaps.{RawHeap, raw}
use Rattle.term_meaning.specs.Meaning.{HeapValue, Env, IsEnv, ref_value, truth, heap as heap_value, Language, IsFaithful, InvHolds, StructSays, ClaimSays, invariant_of, If}
use Rattle.term_meaning.proofs.Values.{stable_true}
use Rattle.term_meaning.proofs.OneHeap.{one_heap, untouched_is_one}
use Rattle.term_meaning.proofs.Related.{shows_raw}
use Rattle.term_meaning.proofs.Changes.{one_says}
use Rattle.method.proofs.SameHeaps.{good_same}
use Rattle.axiom_instances.specs.Admissibility.{object, reflexive_condition, stable_condition, ConditionByReflexive, ConditionByStable}
use Rattle.axiom_instances.proofs.Kit.{Has, Holds, one, none, more, node_holds, node_has, same_values, imp_holds, both_given, no_given}
use Rattle.axiom_instances.proofs.Facts.{Shown, good_given, closed_given, type_given}
use Rattle.axiom_instances.proofs.Invariants.{inv_shown, legal_given, kept_given}
use Rattle.axiom_instances.proofs.Stability.{closed_is}

every_entry : (test : Entry → Bool) (es : List Entry) → ((d : Entry) → has_entry d es ≡ true → test d ≡ true) → every test es ≡ true
every_entry test [] h = refl
every_entry test (d ∷ es) h = and_from _ _ (h d (or_left _ _ (entry_order.itself d))) (every_entry test es (λ c m. h c (or_right _ _ m)))

of_every : (test : Entry → Bool) (d : Entry) (es : List Entry) → every test es ≡ true → has_entry d es ≡ true → test d ≡ true
of_every test d [] h m = absurd (cc)
of_every test d (c ∷ es) h m =
    let p = and_parts (test c) (every test es) h in
    elim (or_cases (same_entry d c) (has_entry d es) m) [
      | inl s ↦ ap test (entry_order.equal d c s) ∙ p.0
      | inr n ↦ of_every test d es p.1 n
    ]

-- there is one at each place of a list that is as long
same_place : {X Y : Type 0} (xs : List X) (ys : List Y) → length xs ≡ length ys → (n : ℕ) (y : Y) → slice_get ys n ≡ Some y → (x : X) × (slice_get xs n ≡ Some x)
same_place [] [] e n y is = absurd (cc)
same_place [] (z ∷ ys) e n y is = absurd (omega arith)
same_place (x ∷ xs) [] e n y is = absurd (cc)
same_place (x ∷ xs) (z ∷ ys) e zero y is = (x, refl)
same_place (x ∷ xs) (z ∷ ys) e (suc n) y is = same_place xs ys (omega arith) n y is

entry_is : (o : Option ShapeInfo) (vs : List Scalar) → is_entry o vs ≡ true → (sh : ShapeInfo) × (o ≡ Some sh) × (have_sorts (holes o) vs ≡ true)
entry_is None vs h = absurd (cc)
entry_is (Some sh) vs h = (sh, refl, h)

module _ {l : Language} (me : Ref) (is_me : is_thread me ≡ true) (faithful : IsFaithful l) where
  -- what a closed claim was made with
  claim_from : (o : Ref) (k : Heap) → IsHeapOf l.program k → closed_in k o ≡ true → ClaimSays l me o (raw l.program k) → claim_holds l.program o k ≡ true
  claim_from o k b shut says = every_entry (entry_holds l.program k) (k.get o).shapes holds
    where
      holds : (d : Entry) → has_entry d (k.get o).shapes ≡ true → entry_holds l.program k d ≡ true
      holds d m =
          let s = entry_is (slice_get l.program.shapes.items d.shape) d.values (of_every (λ d. is_entry (slice_get l.program.shapes.items d.shape) d.values) d (k.get o).shapes (b.entries o) m) in
          let f = same_place l.conjuncts l.program.shapes.items faithful.each_shape d.shape s.0 s.1 in
          (faithful.conjunct me d.shape f.0 k (raw l.program k) d.values is_me (shows_raw l.program k b) f.1 s.2).1 (says (closed_is l.program k o ∙ shut) d.shape f.0 f.1 d.values s.2 (one_says (has_entry d (k.get o).shapes) ∙ m))

  -- of any object, from the columns to the heaps
  pub says_any : (o : Ref) (h k : Heap) → IsHeapOf l.program h → IsHeapOf l.program k → InvHolds l me o (raw l.program h) (raw l.program k) → Inv l.program o h k
  unfolding inv_holds
  says_any o h k a b says = by_test (is_claim o) says
    where
      shut : (t : Bool) → closed_in k o ≡ t → ClaimSays l me o (raw l.program k) → (not t || claim_holds l.program o k) ≡ true
      shut true e s = claim_from o k b e s
      shut false e s = refl

      by_test : (t : Bool) → If t (ClaimSays l me o (raw l.program k)) (StructSays l me (invariant_of l o.ty) o (raw l.program h) (raw l.program k)) → cond t (not (closed_in k o) || claim_holds l.program o k) (struct_holds l.program (struct_of l.program o.ty) (inv_scene o h k)) ≡ true
      by_test true s = shut (closed_in k o) refl s
      by_test false s = (faithful.invariant me o h k (raw l.program h) (raw l.program k) is_me (shows_raw l.program h a) (shows_raw l.program k b)).1 s

module _ {l : Language} {e : Env} (env : IsEnv l.program e) (faithful : IsFaithful l) where
  -- two heaps that one term shows
  shown_same : {f : Formula} {h k : Heap} → Shown l e f h → Shown l e f k → Same h k
  shown_same {f} {h} {k} a b = one_heap l.program h k a.proper b.proper (ap heap_value (same_values a.has b.has))

  heap_value_of : (n : ℤ) → (x : RawHeap) × Has l e (leaf k.Ch n) (HeapValue x)
  heap_value_of n = let c = env.heaps n in (c.1, node_has none (sym c.2))

  object_value : (r : Ref) × Has l e object (ref_value r)
  object_value = let c = env.references (pos 0) in (c.0, node_has none (sym c.1))

  pub reflexive_holds : (ty : ℕ) → Reflexive l.program ty → Holds l e (reflexive_condition ty)
  reflexive_holds ty rule =
      let h = heap_value_of (pos 0) in
      let k = heap_value_of (pos 1) in
      let o = object_value in
      imp_holds (λ p.
      let q = both_given p in
      let g = good_given h.1 q.0 in
      let v = both_given q.1 in
      let s = kept_given h.1 k.1 v.0 in
      let w = both_given v.1 in
      let good : Good l.program s.0.before = good_same l.program g.heap s.0.before (shown_same g.shown s.0.before_shown) s.0.before_shown.proper g.good in
      inv_shown env faithful s.0.after_shown s.0.after_shown o.1 (rule s.0.before s.0.after good s.1 o.0 (type_given o.1 w.0) (closed_given s.0.after_shown o.1 w.1)))

  pub stable_holds : (ty : ℕ) → Stable l.program ty → Holds l e (stable_condition ty)
  stable_holds ty rule =
      let h = heap_value_of (pos 0) in
      let k = heap_value_of (pos 1) in
      let o = object_value in
      imp_holds (λ p.
      let q = both_given p in
      let g = good_given h.1 q.0 in
      let v = both_given q.1 in
      let s = legal_given h.1 k.1 v.0 in
      let w = both_given v.1 in
      let t = both_given w.1 in
      let u = both_given t.1 in
      let good : Good l.program s.0.before = good_same l.program g.heap s.0.before (shown_same g.shown s.0.before_shown) s.0.before_shown.proper g.good in
      record {
        always = λ z m. stable_true (truth z) (λ fails. no_given u.1 (node_holds (more o.1 (more s.0.before_shown.has (one s.0.after_shown.has))) (λ y d. d.holds (λ apart.
            fails ((inv_shown env faithful s.0.before_shown s.0.after_shown o.1 (rule s.0.before s.0.after good s.1 o.0 (type_given o.1 w.0) (closed_given s.0.before_shown o.1 t.0) (closed_given s.0.after_shown o.1 u.0) (untouched_is_one l.program s.0.before s.0.after s.0.before_shown.proper s.0.after_shown.proper o.0 apart))).always z m)))));
      })

pub condition_by_reflexive : ConditionByReflexive
condition_by_reflexive l faithful ty rule e x env g = (reflexive_holds env faithful ty rule).always x g

pub condition_by_stable : ConditionByStable
condition_by_stable l faithful ty rule e x env g = (stable_holds env faithful ty rule).always x g
