-- The heap of RowGood is good: what is said of all references is said of its three, and of those at which nothing stands.
use Rattle.std.proofs.Common.{◌≡◌, ℕ, zero, suc, Bool, true, false, cond, ◌&&◌, ◌||◌, [], ◌∷◌, pos, None, Some, slice_get, IsTrue, refl, sym, ap, subst, ◌∙◌, inl, inr}
use Rattle.std.proofs.lemmas.Option.{same_Some}
use Rattle.object_types.specs.declared.references.Ref.{Ref}
use Rattle.object_types.specs.declared.values.Value.{Value}
use Rattle.object_types.specs.declared.values.Value.TheVariants.{Int, Ref as Refers}
use Rattle.object_types.specs.declared.records.Mode.TheVariants.{Absent, Open, Closed, Freed}
use Rattle.object_types.specs.References.{null, is_reference, is_thread, is_claim, thread, same_ref, ref_lt}
use Rattle.object_types.specs.Values.{kept, or_zero}
use Rattle.object_types.specs.Sets.{is_in, every, is_ordered}
use Rattle.object_types.specs.Shapes.{entry_lt}
use Rattle.object_types.specs.Heap.{Record, nothing, is_closed, closed_in, IsClosedIn}
use Rattle.method.specs.Tables.{zero_of, in_type, type_of_field, sort_of_type, is_field_of, is_claimable}
use Rattle.method.specs.Invariants.{Inv, inv_holds}
use Rattle.method.specs.WellFormed.{IsHeapOf, IsCount, IsMade, WellFormed, is_entry, has_sort, claims_now}
use Rattle.method.specs.Trace.{Memory}
use Rattle.method.specs.RowGood.{program, main, f1, g1, c1, member_record, owner_record, claim_record, heap, first_site, GoodHeapRow}
use Rattle.method.proofs.Global.{same_ref_is}
use Rattle.method.proofs.Empty.{zero_in_type}

or_none : (b : Bool) → b ≡ false → b || false ≡ false
or_none b e = ap (λ (x : Bool). x || false) e

or_right_none : (b : Bool) → b || false ≡ true → b ≡ true
or_right_none true e = refl
or_right_none false e = absurd (cc)

and_none : (b : Bool) → b && false ≡ false
and_none true = refl
and_none false = refl

-- what holds of the three, and where nothing stands, holds everywhere
module _ (P : Ref → Record → Type 0) (at_f : P f1 member_record) (at_g : P g1 owner_record) (at_c : P c1 claim_record) (at_none : (o : Ref) → same_ref o g1 ≡ false → same_ref o c1 ≡ false → P o nothing) where
  by_tests : (o : Ref) (a b c : Bool) → same_ref o f1 ≡ a → same_ref o g1 ≡ b → same_ref o c1 ≡ c → P o (heap.get o)
  unfolding same_ref
  by_tests o true b c x y z = subst (λ (q : Ref). P q (heap.get q)) (sym (same_ref_is o f1 x)) at_f
  by_tests o false true c x y z = subst (λ (q : Ref). P q (heap.get q)) (sym (same_ref_is o g1 y)) at_g
  by_tests o false false true x y z = subst (λ (q : Ref). P q (heap.get q)) (sym (same_ref_is o c1 z)) at_c
  by_tests o false false false x y z =
      subst (λ (r : Record). P o r) (sym (λ i. cond (x i) member_record (cond (y i) owner_record (cond (z i) claim_record nothing)))) (at_none o y z)

  everywhere : (o : Ref) → P o (heap.get o)
  everywhere o = by_tests o (same_ref o f1) (same_ref o g1) (same_ref o c1) refl refl refl

-- ---- who claims what

unclaimed : (o : Ref) → same_ref o g1 ≡ false → (r : Ref) → claims_now heap o r ≡ false
unfolding is_in
unclaimed o e = everywhere (λ c r. is_claim c && (is_closed r.mode && is_in o r.listed) ≡ false) refl refl (or_none (same_ref o g1) e) (λ c x y. and_none (is_claim c))

claimed_once : (r : Ref) → is_in r (c1 ∷ []) ≡ claims_now heap g1 r
unfolding is_in same_ref
claimed_once = everywhere (λ c r. is_in c (c1 ∷ []) ≡ is_claim c && (is_closed r.mode && is_in g1 r.listed)) refl refl refl (λ c x y. or_none (same_ref c c1) y ∙ sym (and_none (is_claim c)))

none_claims : (o : Ref) → same_ref o g1 ≡ false → IsCount (claims_now heap o) 0
unfolding is_in
none_claims o e = record { which = []; each = λ r. sym (unclaimed o e r); distinct = refl; many = refl }

-- ---- a heap of the program

module _ (m : Memory) where
  own_f : (f : ℕ) → is_field_of (program m) f 3 ≡ false → member_record.fields f ≡ None
  own_f zero e = absurd (cc)
  own_f (suc f) e = refl

  own_g : (f : ℕ) → is_field_of (program m) f 4 ≡ false → owner_record.fields f ≡ None
  own_g zero e = refl
  own_g (suc zero) e = absurd (cc)
  own_g (suc (suc f)) e = refl

  kept_f : (f : ℕ) (v : Value) → member_record.fields f ≡ Some v → kept v ≡ Some v
  unfolding same_ref
  kept_f zero v e = subst (λ (w : Value). kept w ≡ Some w) (same_Some (Int (pos 5)) v e) refl
  kept_f (suc f) v e = absurd (cc)

  kept_g : (f : ℕ) (v : Value) → owner_record.fields f ≡ Some v → kept v ≡ Some v
  unfolding same_ref
  kept_g zero v e = absurd (cc)
  kept_g (suc zero) v e = subst (λ (w : Value). kept w ≡ Some w) (same_Some (Refers f1) v e) refl
  kept_g (suc (suc f)) v e = absurd (cc)

  sort_f : (f : ℕ) (v : Value) → member_record.fields f ≡ Some v → has_sort (sort_of_type (type_of_field (program m) f)) v ≡ true
  sort_f zero v e = subst (λ (w : Value). has_sort (sort_of_type (type_of_field (program m) 0)) w ≡ true) (same_Some (Int (pos 5)) v e) refl
  sort_f (suc f) v e = absurd (cc)

  sort_g : (f : ℕ) (v : Value) → owner_record.fields f ≡ Some v → has_sort (sort_of_type (type_of_field (program m) f)) v ≡ true
  sort_g zero v e = absurd (cc)
  sort_g (suc zero) v e = subst (λ (w : Value). has_sort (sort_of_type (type_of_field (program m) 1)) w ≡ true) (same_Some (Refers f1) v e) refl
  sort_g (suc (suc f)) v e = absurd (cc)

  heap_of : IsHeapOf (program m) heap
  unfolding is_in same_ref
  heap_of = record {
    finite = everywhere (λ o r. is_in o heap.support ≡ false → r ≡ nothing) (λ e. absurd (cc)) (λ e. absurd (cc)) (λ e. absurd (cc)) (λ o x y e. refl);
    owned_ordered = everywhere (λ o r. is_ordered ref_lt r.owned ≡ true) refl refl refl (λ o x y. refl);
    listed_ordered = everywhere (λ o r. is_ordered ref_lt r.listed ≡ true) refl refl refl (λ o x y. refl);
    shapes_ordered = everywhere (λ o r. is_ordered entry_lt r.shapes ≡ true) refl refl refl (λ o x y. refl);
    entries = everywhere (λ o r. every (λ e. is_entry (slice_get (program m).shapes.items e.shape) e.values) r.shapes ≡ true) refl refl refl (λ o x y. refl);
    own_fields = everywhere (λ o r. (f : ℕ) → is_field_of (program m) f o.ty ≡ false → r.fields f ≡ None) own_f own_g (λ f e. refl) (λ o x y f e. refl);
    kept_fields = everywhere (λ o r. (f : ℕ) (v : Value) → r.fields f ≡ Some v → kept v ≡ Some v) kept_f kept_g (λ f v e. absurd (cc)) (λ o x y f v e. absurd (cc));
    nowhere_else = everywhere (λ o r. is_reference o ≡ false → r ≡ nothing) (λ e. absurd (cc)) (λ e. absurd (cc)) (λ e. absurd (cc)) (λ o x y e. refl);
    owners = everywhere (λ o r. is_reference r.owner ≡ true) refl refl refl (λ o x y. refl);
    owned_are = everywhere (λ o r. every is_reference r.owned ≡ true) refl refl refl (λ o x y. refl);
    listed_are = everywhere (λ o r. every is_reference r.listed ≡ true) refl refl refl (λ o x y. refl);
    values_are = everywhere (λ o r. (f : ℕ) (v : Value) → r.fields f ≡ Some v → has_sort (sort_of_type (type_of_field (program m) f)) v ≡ true) sort_f sort_g (λ f v e. absurd (cc)) (λ o x y f v e. absurd (cc));
    claims_list = everywhere (λ o r. is_claim o ≡ false → (r.listed ≡ []) × (r.shapes ≡ [])) (λ e. (refl, refl)) (λ e. (refl, refl)) (λ e. absurd (cc)) (λ o x y e. (refl, refl));
  }

  -- ---- a well-formed one

  typed_f : (f : ℕ) → is_field_of (program m) f 3 ≡ true → in_type (type_of_field (program m) f) (or_zero (zero_of (type_of_field (program m) f)) (member_record.fields f)) ≡ true
  unfolding in_type same_ref
  typed_f zero e = refl
  typed_f (suc zero) e = absurd (cc)
  typed_f (suc (suc f)) e = absurd (cc)

  typed_g : (f : ℕ) → is_field_of (program m) f 4 ≡ true → in_type (type_of_field (program m) f) (or_zero (zero_of (type_of_field (program m) f)) (owner_record.fields f)) ≡ true
  unfolding in_type same_ref
  typed_g zero e = absurd (cc)
  typed_g (suc zero) e = refl
  typed_g (suc (suc f)) e = absurd (cc)

  member_of : (q : Ref) → is_in q (f1 ∷ []) ≡ true → IsClosedIn heap q × ((heap.get q).owner ≡ g1)
  unfolding is_in same_ref
  member_of q e = subst (λ (r : Ref). IsClosedIn heap r × ((heap.get r).owner ≡ g1)) (sym (same_ref_is q f1 (or_right_none (same_ref q f1) e))) (refl, refl)

  claimed_is : (o : Ref) → is_in o (g1 ∷ []) ≡ true → IsClosedIn heap o × IsTrue (is_claimable (program m) o.ty)
  unfolding is_in same_ref
  claimed_is o e = subst (λ (r : Ref). IsClosedIn heap r × IsTrue (is_claimable (program m) r.ty)) (sym (same_ref_is o g1 (or_right_none (same_ref o g1) e))) (refl, refl)

  is_made : IsMade (program m) claim_record
  unfolding is_in same_ref in_type
  is_made = record {
    number = 0;
    site = first_site m;
    me = thread 1;
    locals = Refers g1 ∷ [];
    objects = g1 ∷ [];
    is = refl;
    values = record { me_thread = refl; variables = refl; claimed = refl };
    count = refl;
    owned = refl;
    listed = refl;
    shapes = refl;
  }

  well_formed : WellFormed (program m) heap
  unfolding is_in same_ref
  well_formed = record {
    heap_of = heap_of;
    fields = everywhere (λ o r. (f : ℕ) → is_field_of (program m) f o.ty ≡ true → in_type (type_of_field (program m) f) (or_zero (zero_of (type_of_field (program m) f)) (r.fields f)) ≡ true) typed_f typed_g (λ f e. zero_in_type (type_of_field (program m) f)) (λ o x y f e. zero_in_type (type_of_field (program m) f));
    no_null = refl;
    no_threads = everywhere (λ o r. is_thread o ≡ true → r.mode ≡ Absent) (λ e. absurd (cc)) (λ e. absurd (cc)) (λ e. absurd (cc)) (λ o x y e. refl);
    absent = everywhere (λ o r. r.mode ≡ Absent → r ≡ nothing) (λ e. absurd (cc)) (λ e. absurd (cc)) (λ e. absurd (cc)) (λ o x y e. refl);
    opened = everywhere (λ o r. r.mode ≡ Open → (is_thread r.owner ≡ true) × (r.count ≡ pos 0)) (λ e. absurd (cc)) (λ e. absurd (cc)) (λ e. absurd (cc)) (λ o x y e. absurd (cc));
    freed = everywhere (λ o r. r.mode ≡ Freed → (r.owner ≡ null) × (r.count ≡ pos 0)) (λ e. absurd (cc)) (λ e. absurd (cc)) (λ e. absurd (cc)) (λ o x y e. absurd (cc));
    owner = everywhere (λ o r. is_closed r.mode ≡ true → is_thread r.owner || (closed_in heap r.owner && is_in o (heap.get r.owner).owned) ≡ true) (λ e. refl) (λ e. refl) (λ e. refl) (λ o x y e. absurd (cc));
    member = everywhere (λ o r. (q : Ref) → is_closed r.mode ≡ true → is_in q r.owned ≡ true → IsClosedIn heap q × ((heap.get q).owner ≡ o)) (λ q e d. absurd (cc)) (λ q e d. member_of q d) (λ q e d. absurd (cc)) (λ o x y q e d. absurd (cc));
    count = everywhere (λ o r. (n : ℕ) × (r.count ≡ pos n) × IsCount (claims_now heap o) n) (0, refl, none_claims f1 refl) (1, refl, record { which = c1 ∷ []; each = claimed_once; distinct = refl; many = refl }) (0, refl, none_claims c1 refl) (λ o x y. (0, refl, none_claims o x));
    listed = λ c o. everywhere (λ q r. is_claim q && (is_closed r.mode && is_in o r.listed) ≡ true → IsClosedIn heap o × IsTrue (is_claimable (program m) o.ty)) (λ e. absurd (cc)) (λ e. absurd (cc)) (λ e. claimed_is o e) (λ q x y e. absurd (cc (and_none (is_claim q)))) c;
    made = everywhere (λ c r. is_claim c ≡ true → is_closed r.mode ≡ true → IsMade (program m) r) (λ e d. absurd (cc)) (λ e d. absurd (cc)) (λ e d. is_made) (λ c x y e d. absurd (cc));
  }

  holds_everywhere : (o : Ref) → IsClosedIn heap o → Inv (program m) o heap heap
  unfolding is_in same_ref inv_holds
  holds_everywhere = everywhere (λ o r. is_closed r.mode ≡ true → inv_holds (program m) o heap heap ≡ true) (λ e. refl) (λ e. refl) (λ e. refl) (λ o x y e. absurd (cc))

pub good_heap_row : GoodHeapRow
good_heap_row m = record { well_formed = well_formed m; all = holds_everywhere m }
