-- Two heaps with the same records are the same heap: the list of references beside the records changes no invariant and no relation of heaps of a program.
use Rattle.std.proofs.Common.{◌≡◌, not, cond, ◌&&◌, ◌||◌, List, [], ◌∷◌, pos, Option, Some, None, slice_get, refl, sym, ap, ◌∙◌, subst}
use Rattle.std.specs.Prelude.{◌-ℤ◌}
use Rattle.object_types.specs.declared.references.Ref.{Ref}
use Rattle.object_types.specs.declared.values.Value.{Value}
use Rattle.object_types.specs.declared.values.Value.TheVariants.{Int, Ref as Refers}
use Rattle.object_types.specs.declared.shapes.Entry.{Entry}
use Rattle.method.specs.declared.program.Spec.{Spec, Row_of-Spec, end_of-Spec, more_of-Spec}
use Rattle.method.specs.declared.program.Spec.TheVariants.{Number, Truth, Null, Variable, Bound, This, Me, Result, Field', Closed', Owner', ClaimCount', Member', Not', Negate', Arithmetic', Compare', And', Or', Implies', Iff', Choose', Old', Unchanged', Wrapped', Wrapped0', Mutable', Fresh', ClaimsObject', ClaimsOnly', Claims', Lists', Has, ForAll', Exists'}
use Rattle.method.specs.declared.program.Shape.{Shape}
use Rattle.method.specs.declared.program.StructInfo.{StructInfo}
use Rattle.method.specs.declared.program.Program.{Program}
use Rattle.object_types.specs.References.{same_ref, is_claim}
use Rattle.object_types.specs.Values.{same_value, int, referent, truth, says}
use Rattle.object_types.specs.Sets.{some, every, is_in}
use Rattle.object_types.specs.Heap.{Heap, Same, closed_in, mutable, wrapped, wrapped0}
use Rattle.method.specs.Tables.{in_type, read, struct_of}
use Rattle.method.specs.SpecValue.{is_exactly, referents, Scene, compute, compare, old_scene, bind_ref, about, value, all_hold, holds, claim_scene, shape_holds, entry_holds}
use Rattle.method.specs.Invariants.{inv_scene, struct_holds, inv_holds, Inv}
use Rattle.method.specs.WellFormed.{IsHeapOf, WellFormed, WellFormedStep}
use Rattle.method.specs.Legal.{Untouched, Legal, Kept, Good}
use Rattle.method.specs.StableSet.{StableFrom, root, claimed, member, Spared}
use Rattle.method.specs.Rely.{Rely, Frame}
use Rattle.method.specs.SameRecords.{SameRecordsLaw}

-- the heap with another list
abbrev pub listing : List Ref → Heap → Heap
listing x h = record { get = h.get; support = x }

abbrev listing_both : List Ref → List Ref → Scene → Scene
listing_both x y s = record s { before = listing x s.before; after = listing y s.after }

module _ (p : Program) where
  mutual
    pub same_value_of : (e : Spec) (s : Scene) (x y : List Ref) → value p e (listing_both x y s) ≡ value p e s
    same_value_of (Number z) s x y = refl
    same_value_of (Truth b) s x y = refl
    same_value_of Null s x y = refl
    same_value_of (Variable i) s x y = refl
    same_value_of (Bound i) s x y = refl
    same_value_of This s x y = refl
    same_value_of Me s x y = refl
    same_value_of Result s x y = refl
    same_value_of (Field' q e f) s x y = ap (λ v. read p s.after (referent v) f) (same_value_of e s x y)
    same_value_of (Closed' q e) s x y = ap (λ v. says (closed_in s.after (referent v))) (same_value_of e s x y)
    same_value_of (Owner' q e) s x y = ap (λ v. Refers (s.after.get (referent v)).owner) (same_value_of e s x y)
    same_value_of (ClaimCount' q e) s x y = ap (λ v. Int (s.after.get (referent v)).count) (same_value_of e s x y)
    same_value_of (Member' q a r b) s x y = λ i. says (is_in (referent (same_value_of a s x y i)) (s.after.get (referent (same_value_of b s x y i))).owned)
    same_value_of (Not' q e) s x y = ap (λ v. says (not (truth v))) (same_value_of e s x y)
    same_value_of (Negate' q e) s x y = ap (λ v. Int (pos 0 -ℤ int v)) (same_value_of e s x y)
    same_value_of (Arithmetic' op q a r b) s x y = λ i. Int (compute op (int (same_value_of a s x y i)) (int (same_value_of b s x y i)))
    same_value_of (Compare' c q a r b) s x y = λ i. says (compare c (same_value_of a s x y i) (same_value_of b s x y i))
    same_value_of (And' q a r b) s x y = λ i. says (truth (same_value_of a s x y i) && truth (same_value_of b s x y i))
    same_value_of (Or' q a r b) s x y = λ i. says (truth (same_value_of a s x y i) || truth (same_value_of b s x y i))
    same_value_of (Implies' q a r b) s x y = λ i. says (not (truth (same_value_of a s x y i)) || truth (same_value_of b s x y i))
    same_value_of (Iff' q a r b) s x y = λ i. says (cond (truth (same_value_of a s x y i)) (truth (same_value_of b s x y i)) (not (truth (same_value_of b s x y i))))
    same_value_of (Choose' q a r b t c) s x y = λ i. cond (truth (same_value_of a s x y i)) (same_value_of b s x y i) (same_value_of c s x y i)
    same_value_of (Old' q e) s x y = same_value_of e (old_scene s) x x
    same_value_of (Unchanged' q e) s x y = λ i. says (same_value (same_value_of e (old_scene s) x x i) (same_value_of e s x y i))
    same_value_of (Wrapped' q e) s x y = ap (λ v. says (wrapped s.me s.after (referent v))) (same_value_of e s x y)
    same_value_of (Wrapped0' q e) s x y = ap (λ v. says (wrapped0 s.me s.after (referent v))) (same_value_of e s x y)
    same_value_of (Mutable' q e) s x y = ap (λ v. says (mutable s.me s.after (referent v))) (same_value_of e s x y)
    same_value_of (Fresh' q e) s x y = ap (λ v. says (not (same_ref (s.before.get (referent v)).owner s.me))) (same_value_of e s x y)
    same_value_of (ClaimsObject' q c r o) s x y = λ i. says (is_in (referent (same_value_of o s x y i)) (s.after.get (referent (same_value_of c s x y i))).listed)
    same_value_of (ClaimsOnly' n q c m row) s x y = λ i. says (is_exactly (s.after.get (referent (same_value_of c s x y i))).listed (same_referents_of row s x y i))
    same_value_of (Claims' q c m row) s x y = (λ i. says (all_hold p row (about (referent (same_value_of c s x y i)) (listing_both x y s)))) ∙ ap says (same_row_of row (about (referent (value p c s)) s) x y)
    same_value_of (Lists' q o) s x y = ap (λ v. says (is_in (referent v) (s.after.get s.subject).listed)) (same_value_of o s x y)
    same_value_of (Has c) s x y = refl
    same_value_of (ForAll' n ty q a r e) s x y = λ i. says (every (λ m. not (in_type ty (Refers m)) || truth (same_value_of e (bind_ref m s) x y i)) (s.after.get (referent (same_value_of a s x y i))).owned)
    same_value_of (Exists' n ty q a m row) s x y = λ i. says (some (λ r. in_type ty (Refers r) && same_row_of row (bind_ref r s) x y i) (s.after.get (referent (same_value_of a s x y i))).owned)

    same_row_of : {m : _} (row : Row_of-Spec m) (s : Scene) (x y : List Ref) → all_hold p row (listing_both x y s) ≡ all_hold p row s
    same_row_of end_of-Spec s x y = refl
    same_row_of (more_of-Spec e row) s x y = λ i. truth (same_value_of e s x y i) && same_row_of row s x y i

    same_referents_of : {m : _} (row : Row_of-Spec m) (s : Scene) (x y : List Ref) → referents p row (listing_both x y s) ≡ referents p row s
    same_referents_of end_of-Spec s x y = refl
    same_referents_of (more_of-Spec e row) s x y = λ i. referent (same_value_of e s x y i) ∷ same_referents_of row s x y i

  same_shape_of : (sh : Option Shape) (h : Heap) (vs : List Value) (x : List Ref) → shape_holds p sh (listing x h) vs ≡ shape_holds p sh h vs
  same_shape_of None h vs x = refl
  same_shape_of (Some sh) h vs x = ap truth (same_value_of sh.conjunct (claim_scene p h vs) x x)

  same_entries_of : (h : Heap) (es : List Entry) (x : List Ref) → every (entry_holds p (listing x h)) es ≡ every (entry_holds p h) es
  same_entries_of h [] x = refl
  same_entries_of h (e ∷ es) x = λ i. same_shape_of (slice_get p.shapes.items e.shape) h e.values x i && same_entries_of h es x i

  same_specs_of : (es : List Spec) (s : Scene) (x y : List Ref) → every (λ e. holds p e (listing_both x y s)) es ≡ every (λ e. holds p e s) es
  same_specs_of [] s x y = refl
  same_specs_of (e ∷ es) s x y = λ i. truth (same_value_of e s x y i) && same_specs_of es s x y i

  same_struct_of : (info : Option StructInfo) (o : Ref) (h k : Heap) (x y : List Ref) → struct_holds p info (inv_scene o (listing x h) (listing y k)) ≡ struct_holds p info (inv_scene o h k)
  same_struct_of None o h k x y = refl
  same_struct_of (Some info) o h k x y = same_specs_of info.invariants.items (inv_scene o h k) x y

  pub same_inv_of : (o : Ref) (h k : Heap) (x y : List Ref) → inv_holds p o (listing x h) (listing y k) ≡ inv_holds p o h k
  unfolding inv_holds
  same_inv_of o h k x y = λ i. cond (is_claim o) (not (closed_in k o) || same_entries_of k (k.get o).shapes y i) (same_struct_of (struct_of p o.ty) o h k x y i)

  inv_on : (o : Ref) (h k : Heap) (x y : List Ref) → Inv p o h k → Inv p o (listing x h) (listing y k)
  inv_on o h k x y i = same_inv_of o h k x y ∙ i

  -- Relations on the same records.

  module _ (h : Heap) (x : List Ref) (a : IsHeapOf p (listing x h)) where
    well_formed_on : WellFormed p h → WellFormed p (listing x h)
    well_formed_on w = record {
      heap_of = a;
      fields = w.fields;
      no_null = w.no_null;
      no_threads = w.no_threads;
      absent = w.absent;
      opened = w.opened;
      freed = w.freed;
      owner = w.owner;
      member = w.member;
      count = w.count;
      listed = w.listed;
      made = w.made;
    }

    good_on : Good p h → Good p (listing x h)
    good_on g = record { well_formed = well_formed_on g.well_formed; all = λ o c. inv_on o h h x x (g.all o c) }

  stable_on : (h : Heap) (x : List Ref) (R S : Ref → Type 0) → ((o : Ref) → R o → S o) → (o : Ref) → StableFrom p h R o → StableFrom p (listing x h) S o
  stable_on h x R S f o (root r) = root (f o r)
  stable_on h x R S f o (claimed {c = c} s i) = claimed (stable_on h x R S f c s) i
  stable_on h x R S f o (member {c = c} s v i) = member (stable_on h x R S f c s) v i

  stable_off : (h : Heap) (x : List Ref) (R S : Ref → Type 0) → ((o : Ref) → R o → S o) → (o : Ref) → StableFrom p (listing x h) R o → StableFrom p h S o
  stable_off h x R S f o s = stable_on (listing x h) h.support R S f o s

  module _ (h k : Heap) (x y : List Ref) (a : IsHeapOf p (listing x h)) (b : IsHeapOf p (listing y k)) where
    step_on : WellFormedStep p h k → WellFormedStep p (listing x h) (listing y k)
    step_on s = record { before = a; after = well_formed_on k y b s.after; fixed = λ o c d. let f = s.fixed o c d in record { fields = f.fields; owned = f.owned; listed = f.listed; shapes = f.shapes } }

    untouched_off : (o : Ref) → Untouched p o h k → Untouched p o (listing x h) (listing y k)
    untouched_off o u = record { count = u.count; owned = u.owned; fields = u.fields; listed = u.listed; shapes = u.shapes; closed = u.closed; counts = u.counts; approved = u.approved }

    legal_on : Legal p h k → Legal p (listing x h) (listing y k)
    legal_on s = record { well_formed = step_on s.well_formed; touched = λ o c t. inv_on o h k x y (s.touched o c (λ u. t (untouched_off o u))) }

    kept_on : Kept p h k → Kept p (listing x h) (listing y k)
    kept_on s = record { well_formed = step_on s.well_formed; all = λ o c. inv_on o h k x y (s.all o c) }

    rely_on : (t : Ref) → Rely p t h k → Rely p t (listing x h) (listing y k)
    rely_on t r = record {
      before = good_on h x a r.before;
      after = good_on k y b r.after;
      own_open = r.own_open;
      own_closed = r.own_closed;
      stable = λ o s. let z = r.stable o (stable_off h x _ _ (λ o w. w) o s) in (record { fields = z.0.fields; owned = z.0.owned; listed = z.0.listed; shapes = z.0.shapes }, stable_on k y _ _ (λ o w. w) o z.1);
      foreign = r.foreign;
    }

    frame_on : (t : Ref) (e : Heap) (z : List Ref) (w : List Ref) → IsHeapOf p (listing z e) → Frame p t h k e w → Frame p t (listing x h) (listing y k) (listing z e) w
    frame_on t e z w c f = record {
      before = a;
      entry = c;
      after = good_on k y b f.after;
      own_open = f.own_open;
      own_closed = f.own_closed;
      stable = λ o s.
          let v = f.stable o (stable_off h x (Spared t (listing x h) (listing z e) w) (Spared t h e w) (λ o r. record { wrapped_now = r.wrapped_now; not_written = r.not_written }) o s) in
          (record { fields = v.0.fields; owned = v.0.owned; listed = v.0.listed; shapes = v.0.shapes }, stable_on k y (Spared t k e w) (Spared t (listing y k) (listing z e) w) (λ o r. record { wrapped_now = r.wrapped_now; not_written = r.not_written }) o v.1);
    }

-- another heap with the same records, as this one with another list
as_listing : (h k : Heap) → Same h k → listing k.support h ≡ k
as_listing h k same = λ i. record { get = (λ o. sym (same o) i); support = k.support }

module _ (p : Program) where
  -- what is a heap of the program with these records is one with that list
  listed_heap : (h k : Heap) → Same h k → IsHeapOf p k → IsHeapOf p (listing k.support h)
  listed_heap h k same a = subst (λ (g : Heap). IsHeapOf p g) (sym (as_listing h k same)) a

  pub well_formed_same : (h k : Heap) → Same h k → IsHeapOf p k → WellFormed p h → WellFormed p k
  well_formed_same h k same a w = subst (λ (g : Heap). WellFormed p g) (as_listing h k same) (well_formed_on p h k.support (listed_heap h k same a) w)

  pub good_same : (h k : Heap) → Same h k → IsHeapOf p k → Good p h → Good p k
  good_same h k same a g = subst (λ (g : Heap). Good p g) (as_listing h k same) (good_on p h k.support (listed_heap h k same a) g)

  module _ (h k h' k' : Heap) (s : Same h h') (t : Same k k') (a : IsHeapOf p h') (b : IsHeapOf p k') where
    to_these : (R : Heap → Heap → Type 0) → R (listing h'.support h) (listing k'.support k) → R h' k'
    to_these R r = subst (λ (g : Heap). R g k') (as_listing h h' s) (subst (λ (g : Heap). R (listing h'.support h) g) (as_listing k k' t) r)

    pub legal_same : Legal p h k → Legal p h' k'
    legal_same r = to_these (Legal p) (legal_on p h k h'.support k'.support (listed_heap h h' s a) (listed_heap k k' t b) r)

    pub kept_same : Kept p h k → Kept p h' k'
    kept_same r = to_these (Kept p) (kept_on p h k h'.support k'.support (listed_heap h h' s a) (listed_heap k k' t b) r)

    pub rely_same : (u : Ref) → Rely p u h k → Rely p u h' k'
    rely_same u r = to_these (Rely p u) (rely_on p h k h'.support k'.support (listed_heap h h' s a) (listed_heap k k' t b) u r)

    pub frame_same : (u : Ref) (e e' : Heap) (w : List Ref) → Same e e' → IsHeapOf p e' → Frame p u h k e w → Frame p u h' k' e' w
    frame_same u e e' w v c r =
        subst (λ (g : Heap). Frame p u h' k' g w) (as_listing e e' v)
        (to_these (λ g j. Frame p u g j (listing e'.support e) w) (frame_on p h k h'.support k'.support (listed_heap h h' s a) (listed_heap k k' t b) u e e'.support w (listed_heap e e' v c) r))

pub same_records_law : SameRecordsLaw
same_records_law p = record {
  well_formed = λ h h' s a. well_formed_same p h h' s a;
  good = λ h h' s a. good_same p h h' s a;
  legal = λ h k h' k' s t a b. legal_same p h k h' k' s t a b;
  kept = λ h k h' k' s t a b. kept_same p h k h' k' s t a b;
  rely = λ u h k h' k' s t a b. rely_same p h k h' k' s t a b u;
  frame = λ u w h k e h' k' e' s t v a b c r. frame_same p h k h' k' s t a b u e e' w v c r;
}
