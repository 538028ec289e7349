-- Claims made and ended in a statement.
use Rattle.std.proofs.Common.{◌≡◌, ℕ, zero, suc, ◌+◌, Bool, true, false, cond, not, ◌&&◌, ◌||◌, ◌==◌, nat_lt, inl, inr, ⊎_elim, refl, sym, ap, ◌∙◌, subst, pos, negsuc, List, [], ◌∷◌, ◌++◌, map, length, Option, Some, None, slice_get, arith}
use Rattle.std.proofs.lemmas.Bool.{eqb-true, eq-eqb, ltb-true, lt-ltb}
use Rattle.object_types.specs.declared.references.Ref.{Ref}
use Rattle.object_types.specs.declared.values.Value.{Value}
use Rattle.object_types.specs.declared.values.Value.TheVariants.{Int, Ref as Refers}
use Rattle.object_types.specs.declared.shapes.Entry.{Entry}
use Rattle.object_types.specs.declared.records.Mode.TheVariants.{Absent, Freed}
use Rattle.method.specs.declared.program.CheckKind.TheVariants.{Invariant, MakeClaim, DestroyClaim}
use Rattle.method.specs.declared.program.DeclaredType.{DeclaredType}
use Rattle.method.specs.declared.program.DeclaredType.TheVariants.{Integer, Pointer, Object, Claim}
use Rattle.method.specs.declared.program.Expr.{Expr}
use Rattle.method.specs.declared.program.Sort.{Sort}
use Rattle.method.specs.declared.program.Sort.TheVariants.{IntSort, RefSort}
use Rattle.method.specs.declared.program.Hole.{Hole}
use Rattle.method.specs.declared.program.Hole.TheVariants.{OfVariable, OfBound, OfMe, OfThis, OfResult}
use Rattle.method.specs.declared.program.Conjunct.{Conjunct}
use Rattle.method.specs.declared.program.Shape.{Shape}
use Rattle.method.specs.declared.program.Claimed.{Claimed}
use Rattle.method.specs.declared.program.Claimed.TheVariants.{ClaimedVariable, ClaimedNull, ClaimedOther}
use Rattle.method.specs.declared.program.ClaimSite.{ClaimSite}
use Rattle.method.specs.declared.program.VariableInfo.{VariableInfo}
use Rattle.method.specs.declared.program.FunctionInfo.{FunctionInfo}
use Rattle.method.specs.declared.program.Program.{Program}
use Rattle.object_types.specs.References.{null, same_ref, is_null, is_thread, is_claim}
use Rattle.object_types.specs.Values.{referent}
use Rattle.object_types.specs.Sets.{every, is_in, all_distinct}
use Rattle.object_types.specs.Shapes.{entries_of}
use Rattle.object_types.specs.Heap.{Heap, Record, nothing, put, count_more, is_closed, is_absent, closed_in, wrapped, fresh, with_field}
use Rattle.object_types.proofs.Fresh.{fresh_is}
use Rattle.method.specs.Tables.{local, in_type, is_claimable, kind_of_variable, type_of_variable, struct_of}
use Rattle.method.specs.SpecValue.{Scene, filling, entry_of, entry_holds}
use Rattle.method.specs.Invariants.{inv_holds, Inv, claim_holds, struct_holds, inv_scene}
use Rattle.method.specs.WellFormed.{is_value, has_sort, have_sorts, is_entry, site_scene, site_entries, WellFormed, may_claim_all, types_hold}
use Rattle.method.specs.Typing.{Values, Refs, declared, are_ints, are_refs, fits, values, test, has_type, hole_fits, holes_fit, shape_ok, is_conjunct, claimed_ok, is_named, claimed_named, hole_named, names_all, site_ok, is_type, WellTyped}
use Rattle.method.specs.Expressions.{Gives, Unfit, Spot, Tested, inv_test, entry_test, check_each, check_specs, is_listed, may_write, after, eval, scene, checks}
use Rattle.method.specs.Actions.{Place, InLocal, InField, Supply, Fresh, Chosen, Picked, Progress, Valued, Took, Tally, deferred_from, may_count, claim_tests, take_object, new_claim, stored_heap, run_claimed, claim_made, make_claim, may_end, end_claim, claimed_checks}
use Rattle.method.proofs.Global.{and_both, both_and, same_ref_is, same_ref_self, every_entries}
use Rattle.machine_laws.proofs.Outcomes.{OnGave, after_gave, check_gave, check_each_gave, check_specs_gave}
use Rattle.machine_laws.proofs.Typed.{not_both, or_cases, or_left, or_right, every_at, is_of, to_type, typed_at, Env, eval_of}
use Rattle.machine_laws.proofs.Heaps.{false_from_ne_true, or_parts, not-true, in_more, in_none, in_one, in_one_self, every_in, absent_mode, wrapped_parts, at_put, counted}
use Rattle.machine_laws.proofs.Records.{value_of_type}
use Rattle.machine_laws.proofs.Claiming.{thread_reference, Making, with_claim, at_made, made_well_formed, Ending, at_ended, ended_well_formed, object_listed}
use Rattle.machine_laws.proofs.Apart.{Apart, apart_same, apart_mine, apart_none, apart_still}
use Rattle.machine_laws.proofs.Parts.{is_free, thread_free, null_free, owed, ended, Part, Onward, onward_same, same_part}
use Rattle.machine_laws.proofs.Steps.{none_new, ListedClosed, no_part, noted, noted_both, noted_from, tested_by, Fine, owned_free}

-- A new reference.

pub record Taken (ty : ℕ) (h : Heap) (t : Took) : Type 0 where
  pub type_is : t.which.ty == ty ≡ true
  pub absent : (h.get t.which).mode ≡ Absent

taken_by : (ty : ℕ) (h : Heap) (r : Ref) (s : Supply) → OnGave (cond ((r.ty == ty) && is_absent (h.get r).mode) (Gives (record { which = r; supply = s })) Unfit) (Taken ty h)
taken_by ty h r s = by ((r.ty == ty) && is_absent (h.get r).mode) refl
  where
    by : (b : Bool) → (r.ty == ty) && is_absent (h.get r).mode ≡ b → OnGave (cond b (Gives (record { which = r; supply = s })) Unfit) (Taken ty h)
    by true e = let x = and_both (r.ty == ty) (is_absent (h.get r).mode) e in record { type_is = x.0; absent = absent_mode (h.get r).mode x.1 }
    by false e = tt

pub take_object_gave : (p : Program) (s : Supply) (ty : ℕ) (h : Heap) → WellFormed p h → OnGave (take_object s ty h) (Taken ty h)
take_object_gave p (Fresh n) ty h wf =
    let e : fresh h ty ≡ fresh h ty = refl in
    record { type_is = eq-eqb ty ty refl; absent = absent_mode (h.get (fresh h ty)).mode ((fresh_is h ty wf.heap_of.finite).above (fresh h ty).serial (omega arith)) }
take_object_gave p (Chosen []) ty h wf = tt
take_object_gave p (Chosen (r ∷ rs)) ty h wf = taken_by ty h r (Chosen rs)
take_object_gave p (Picked n []) ty h wf = tt
take_object_gave p (Picked n (r ∷ rs)) ty h wf = taken_by ty h r (Picked n rs)

-- The objects' tests.

pub record Claimable (p : Program) (at_ : Spot) (h : Heap) (earlier os : List Ref) : Type 0 where
  pub each : (o : Ref) → is_in o os ≡ true → (is_claimable p o.ty ≡ true) × (closed_in h o ≡ true) × (may_count at_ h o ≡ true)
  pub fresh : (o : Ref) → is_in o os ≡ true → is_in o earlier ≡ false
  pub distinct : all_distinct os ≡ true

pub claimable_by : (p : Program) (at_ : Spot) (h : Heap) (earlier os : List Ref) → every (λ b. b) (claim_tests p at_ h earlier os) ≡ true → Claimable p at_ h earlier os
claimable_by p at_ h earlier [] e = record { each = λ o i. absurd (cc (in_none o)); fresh = λ o i. absurd (cc (in_none o)); distinct = refl }
claimable_by p at_ h earlier (x ∷ xs) e =
    let a = and_both (is_claimable p x.ty && (closed_in h x && (not (is_in x earlier) && may_count at_ h x))) (every (λ b. b) (claim_tests p at_ h (x ∷ earlier) xs)) e in
    let b = and_both (is_claimable p x.ty) (closed_in h x && (not (is_in x earlier) && may_count at_ h x)) a.0 in
    let c = and_both (closed_in h x) (not (is_in x earlier) && may_count at_ h x) b.1 in
    let d = and_both (not (is_in x earlier)) (may_count at_ h x) c.1 in
    let r = claimable_by p at_ h (x ∷ earlier) xs a.1 in
    record {
      each = λ o i. ⊎_elim
          (λ s. subst (λ (y : Ref). (is_claimable p y.ty ≡ true) × (closed_in h y ≡ true) × (may_count at_ h y ≡ true)) (sym (same_ref_is o x s)) (b.0, c.0, d.1))
          (λ j. r.each o j)
          (or_cases (same_ref o x) (is_in o xs) (sym (in_more o x xs) ∙ i));
      fresh = λ o i. ⊎_elim
          (λ s. subst (λ (y : Ref). is_in y earlier ≡ false) (sym (same_ref_is o x s)) (not-true (is_in x earlier) d.0))
          (λ j. (or_parts (same_ref o x) (is_in o earlier) (sym (in_more o x earlier) ∙ r.fresh o j)).1)
          (or_cases (same_ref o x) (is_in o xs) (sym (in_more o x xs) ∙ i));
      distinct = both_and (not (is_in x xs)) (all_distinct xs)
          (ap not (false_from_ne_true (is_in x xs) (λ j. not_both (is_in x (x ∷ earlier)) (in_more x x earlier ∙ or_left (same_ref x x) (is_in x earlier) (same_ref_self x)) (r.fresh x j))))
          r.distinct;
    }

-- The conjuncts, with the values of their holes.

named_below : (is : List ℕ) (i n : ℕ) → is_named is i ≡ true → every (λ j. nat_lt j n) is ≡ true → nat_lt i n ≡ true
named_below [] i n e a = absurd (cc)
named_below (j ∷ js) i n e a =
    let b = and_both (nat_lt j n) (every (λ j. nat_lt j n) js) a in
    ⊎_elim (λ s. subst (λ k. nat_lt k n ≡ true) (eqb-true j i s) b.0) (λ r. named_below js i n r b.1) (or_cases (j == i) (is_named js i) e)

pub variable_at : (vs : List VariableInfo) (i : ℕ) → nat_lt i (length vs) ≡ true → (w : VariableInfo) × (slice_get vs i ≡ Some w)
variable_at [] i e = absurd (omega (arith, ltb-true i 0 e))
variable_at (v ∷ vs) zero e = (v, refl)
variable_at (v ∷ vs) (suc i) e = variable_at vs i (below i (length vs) e)
  where
    below : (a b : ℕ) → nat_lt (suc a) (suc b) ≡ true → nat_lt a b ≡ true
    below a b h = let l = ltb-true (suc a) (suc b) h in lt-ltb a b (omega (arith, l))

module _ (p : Program) (f : FunctionInfo) (at_ : Spot) (h : Heap) (l : List Value) (env : Env p f h l) (thread : is_thread at_.context.me ≡ true) where
  me : Ref
  me = at_.context.me

  variable_typed : (i : ℕ) → nat_lt i (length f.variables.items) ≡ true → (is_type p (type_of_variable f i) ≡ true) × (in_type (type_of_variable f i) (local l i) ≡ true)
  variable_typed i e =
      let w = variable_at f.variables.items i e in
      let ty : type_of_variable f i ≡ w.0.ty = ap kind_of_variable w.1 in (
        subst (λ t. is_type p t ≡ true) (sym ty) (every_at (λ (v : VariableInfo). is_type p v.ty) f.variables.items i w.0 env.types w.1),
        subst (λ t. in_type t (local l i) ≡ true) (sym ty) (typed_at f.variables.items l i w.0 env.locals w.1),
      )

  int_sort : (ty : DeclaredType) (v : Value) → are_ints (declared ty) ≡ true → in_type ty v ≡ true → has_sort IntSort v ≡ true
  unfolding in_type
  int_sort (Integer c) (Int z) a e = refl
  int_sort (Integer c) (Refers r) a e = absurd (cc)
  int_sort (Pointer n) v a e = absurd (cc)
  int_sort Object v a e = absurd (cc)
  int_sort Claim v a e = absurd (cc)

  ref_sort : (ty : DeclaredType) (v : Value) → are_refs (declared ty) ≡ true → in_type ty v ≡ true → is_value v ≡ true → has_sort RefSort v ≡ true
  unfolding in_type
  ref_sort (Integer c) v a e k = absurd (cc)
  ref_sort (Pointer n) (Int z) a e k = absurd (cc)
  ref_sort (Pointer n) (Refers r) a e k = k
  ref_sort Object (Int z) a e k = absurd (cc)
  ref_sort Object (Refers r) a e k = k
  ref_sort Claim (Int z) a e k = absurd (cc)
  ref_sort Claim (Refers r) a e k = k

  abbrev here : Scene
  here = site_scene at_.context.me l

  hole_sort : (is : List ℕ) (s : Sort) (x : Hole) → every (λ j. nat_lt j (length f.variables.items)) is ≡ true → hole_named is x ≡ true → hole_fits f s x ≡ true → has_sort s (filling here x) ≡ true
  hole_sort is IntSort (OfVariable i) below n e = let t = variable_typed i (named_below is i (length f.variables.items) n below) in int_sort (type_of_variable f i) (local l i) e t.1
  hole_sort is RefSort (OfVariable i) below n e = let t = variable_typed i (named_below is i (length f.variables.items) n below) in ref_sort
      (type_of_variable f i) (local l i) e t.1 (value_of_type p (type_of_variable f i) (local l i) t.0 t.1)
  hole_sort is IntSort OfMe below n e = absurd (cc)
  hole_sort is RefSort OfMe below n e = thread_reference at_.context.me thread
  hole_sort is s (OfBound i) below n e = absurd (cc)
  hole_sort is s OfThis below n e = absurd (cc)
  hole_sort is s OfResult below n e = absurd (cc)

  holes_sort :
      (is : List ℕ) (ss : List Sort) (xs : List Hole) → every (λ j. nat_lt j (length f.variables.items)) is ≡ true → every (hole_named is) xs ≡ true →
      holes_fit f ss xs ≡ true → have_sorts ss (map (filling here) xs) ≡ true
  holes_sort is [] [] below n e = refl
  holes_sort is [] (x ∷ xs) below n e = absurd (cc)
  holes_sort is (s ∷ ss) [] below n e = absurd (cc)
  holes_sort is (s ∷ ss) (x ∷ xs) below n e =
      let a = and_both (hole_named is x) (every (hole_named is) xs) n in
      let b = and_both (hole_fits f s x) (holes_fit f ss xs) e in
      both_and (has_sort s (filling here x)) (have_sorts ss (map (filling here) xs)) (hole_sort is s x below a.0 b.0) (holes_sort is ss xs below a.1 b.1)

  shape_sort :
      (is : List ℕ) (xs : List Hole) (o : Option Shape) → every (λ j. nat_lt j (length f.variables.items)) is ≡ true → every (hole_named is) xs ≡ true →
      shape_ok f xs o ≡ true → is_entry o (map (filling here) xs) ≡ true
  shape_sort is xs None below n e = absurd (cc)
  shape_sort is xs (Some s) below n e = holes_sort is s.holes.items xs below n (and_both (is_conjunct s.conjunct) (holes_fit f s.holes.items xs) e).1

  pub conjuncts_sort :
      (is : List ℕ) (cs : List Conjunct) → every (λ j. nat_lt j (length f.variables.items)) is ≡ true →
      every (λ (c : Conjunct). every (hole_named is) c.holes.items) cs ≡ true →
      every (λ (c : Conjunct). shape_ok f c.holes.items (slice_get p.shapes.items c.shape)) cs ≡ true →
      every (λ e. is_entry (slice_get p.shapes.items e.shape) e.values) (map (entry_of here) cs) ≡ true
  conjuncts_sort is [] below n e = refl
  conjuncts_sort is (c ∷ cs) below n e =
      let a = and_both (every (hole_named is) c.holes.items) (every (λ (c : Conjunct). every (hole_named is) c.holes.items) cs) n in
      let b = and_both (shape_ok f c.holes.items (slice_get p.shapes.items c.shape)) (every (λ (c : Conjunct). shape_ok f c.holes.items (slice_get p.shapes.items c.shape)) cs) e in
      both_and (is_entry (slice_get p.shapes.items c.shape) (map (filling here) c.holes.items)) (every (λ e. is_entry (slice_get p.shapes.items e.shape) e.values) (map (entry_of here) cs))
      (shape_sort is c.holes.items (slice_get p.shapes.items c.shape) below a.0 b.0) (conjuncts_sort is cs below a.1 b.1)

  -- the site's scene and the statement's fill alike
  abbrev there_ : Scene
  there_ = scene at_.context h l

  same_filling : (is : List ℕ) (x : Hole) → hole_named is x ≡ true → filling there_ x ≡ filling here x
  same_filling is (OfVariable i) e = refl
  same_filling is OfMe e = refl
  same_filling is (OfBound i) e = refl
  same_filling is OfThis e = refl
  same_filling is OfResult e = refl

  same_fillings : (is : List ℕ) (xs : List Hole) → every (hole_named is) xs ≡ true → map (filling there_) xs ≡ map (filling here) xs
  same_fillings is [] e = refl
  same_fillings is (x ∷ xs) e = let a = and_both (hole_named is x) (every (hole_named is) xs) e in λ i. same_filling is x a.0 i ∷ same_fillings is xs a.1 i

  pub same_entries : (is : List ℕ) (cs : List Conjunct) → every (λ (c : Conjunct). every (hole_named is) c.holes.items) cs ≡ true → map (entry_of there_) cs ≡ map (entry_of here) cs
  same_entries is [] e = refl
  same_entries is (c ∷ cs) e =
      let a = and_both (every (hole_named is) c.holes.items) (every (λ (c : Conjunct). every (hole_named is) c.holes.items) cs) e in
      λ i. record { shape = c.shape; values = same_fillings is c.holes.items a.0 i } ∷ same_entries is cs a.1 i

  site_variables : (is : List ℕ) → every (λ j. nat_lt j (length f.variables.items)) is ≡ true → every (λ i. in_type (type_of_variable f i) (local l i)) is ≡ true
  site_variables [] e = refl
  site_variables (i ∷ is) e =
      let a = and_both (nat_lt i (length f.variables.items)) (every (λ j. nat_lt j (length f.variables.items)) is) e in
      both_and (in_type (type_of_variable f i) (local l i)) (every (λ i. in_type (type_of_variable f i) (local l i)) is) (variable_typed i a.0).1 (site_variables is a.1)

-- What a right side comes to: a value of its kind, and what is owed outside an atomic block, where it is stored.
abbrev pub IsClean : Progress → Type 0
IsClean g = (o : Ref) → noted g.changed o || noted g.made o ≡ true → ⊥

pub record Right (p : Program) (f : FunctionInfo) (at_ : Spot) (place : Place) (vs : Values) (g : Progress) (v : Valued) : Type 0 where
  pub value : is_of p vs v.value ≡ true
  pub fine : Fine p f at_.context (is_listed at_) g v.starting
  pub tests : at_.inside ≡ false → IsClean g → (o : Ref) → noted v.starting.changed o || noted v.starting.made o ≡ true → Inv p o g.heap (stored_heap place v.value v.starting.heap)

is_claim_value : (p : Program) (c : Ref) → is_claim c ≡ true → is_of p (Refs Claim) (Refers c) ≡ true
unfolding in_type
is_claim_value p c e = or_right (is_null c) (is_claim c) e

-- a claim's property that holds, holds of the claim
claim_inv : (p : Program) (c : Ref) (h k : Heap) (es : List Entry) → is_claim c ≡ true → (k.get c).shapes ≡ entries_of es → every (entry_holds p k) es ≡ true → inv_holds p c h k ≡ true
unfolding inv_holds
claim_inv p c h k es e s a =
    ap (λ z. cond z (not (closed_in k c) || claim_holds p c k) (struct_holds p (struct_of p c.ty) (inv_scene c h k))) e
    ∙ or_right (not (closed_in k c)) (claim_holds p c k) (ap (every (entry_holds p k)) s ∙ every_entries (entry_holds p k) es ∙ a)

stored_shapes : (place : Place) (v : Value) (h : Heap) (c : Ref) → ((stored_heap place v h).get c).shapes ≡ (h.get c).shapes
stored_shapes (InLocal i) v h c = refl
stored_shapes (InField o n) v h c = at_put (λ x r. r.shapes ≡ (h.get x).shapes) h o (with_field n v (h.get o)) refl (λ x d. refl) c

pub tests_at : (p : Program) (h k : Heap) (os : List Ref) (o : Ref) → every (λ (t : Tested). t.holds) (map (λ o. inv_test p o h k) os) ≡ true → is_in o os ≡ true → Inv p o h k
tests_at p h k [] o e i = absurd (cc (in_none o))
tests_at p h k (x ∷ xs) o e i =
    let b = and_both (inv_holds p x h k) (every (λ (t : Tested). t.holds) (map (λ o. inv_test p o h k) xs)) e in
    ⊎_elim (λ s. subst (λ (y : Ref). Inv p y h k) (sym (same_ref_is o x s)) b.0) (λ j. tests_at p h k xs o b.1 j) (or_cases (same_ref o x) (is_in o xs) (sym (in_more o x xs) ∙ i))

entry_tests_at : (p : Program) (h : Heap) (es : List Entry) → every (λ (t : Tested). t.holds) (map (entry_test p h) es) ≡ true → every (entry_holds p h) es ≡ true
entry_tests_at p h [] e = refl
entry_tests_at p h (x ∷ xs) e = let b = and_both (entry_holds p h x) (every (λ (t : Tested). t.holds) (map (entry_test p h) xs)) e in both_and
    (entry_holds p h x) (every (entry_holds p h) xs) b.0 (entry_tests_at p h xs b.1)

module _ (p : Program) (typed : WellTyped p) (f : FunctionInfo) (at_ : Spot) (thread : is_thread at_.context.me ≡ true) (g : Progress) (env : Env p f g.heap g.locals)
    (lists : ListedClosed (is_listed at_) g.heap) where
  abbrev pub AllClosed : List Ref → Type 0
  AllClosed os = (o : Ref) → is_in o os ≡ true → closed_in g.heap o ≡ true

  null_open : closed_in g.heap null ≡ false
  null_open = ap is_closed env.heap.no_null

  claimed_type : (ty : DeclaredType) (v : Value) → in_type ty v ≡ true → closed_in g.heap (referent v) ≡ true → in_type ty (Refers (referent v)) ≡ true
  claimed_type ty (Int z) e c = absurd (not_both (closed_in g.heap null) c null_open)
  claimed_type ty (Refers r) e c = e

  has_type_inversion : (e : Expr) (ty : DeclaredType) → has_type p f e ty ≡ true → (u : Values) × (values p f e ≡ Some u) × (fits u ty ≡ true)
  has_type_inversion e ty h = by (values p f e) refl h
    where
      by : (o : Option Values) → values p f e ≡ o → test p f o (λ v. fits v ty) ≡ true → (u : Values) × (values p f e ≡ Some u) × (fits u ty ≡ true)
      by None k h = absurd (cc)
      by (Some u) k h = (u, k, h)

  pub claimed_gave : (cs : List Claimed) (n : ℕ) → every (claimed_ok p f) cs ≡ true → OnGave (run_claimed p at_ cs n g) (λ os. AllClosed os → may_claim_all cs g.locals os ≡ true)
  claimed_gave [] n e = λ c. refl
  claimed_gave (ClaimedVariable i ∷ cs) n e =
      let b = and_both (claimed_ok p f (ClaimedVariable i)) (every (claimed_ok p f) cs) e in
      let r = referent (local g.locals i) in
      after_gave (run_claimed p at_ cs n g) (λ os. Gives (r ∷ os)) (λ os. AllClosed os → may_claim_all cs g.locals os ≡ true)
      (λ os. AllClosed os → may_claim_all (ClaimedVariable i ∷ cs) g.locals os ≡ true) (claimed_gave cs n b.1)
      (λ os k c. both_and (same_ref r r) (may_claim_all cs g.locals os) (same_ref_self r) (k (λ o j. c o (in_more o r os ∙ or_right (same_ref o r) (is_in o os) j))))
  claimed_gave (ClaimedNull ∷ cs) n e =
      let b = and_both (claimed_ok p f ClaimedNull) (every (claimed_ok p f) cs) e in
      after_gave (run_claimed p at_ cs n g) (λ os. Gives (null ∷ os)) (λ os. AllClosed os → may_claim_all cs g.locals os ≡ true)
      (λ os. AllClosed os → may_claim_all (ClaimedNull ∷ cs) g.locals os ≡ true) (claimed_gave cs n b.1)
      (λ os k c. both_and (same_ref null null) (may_claim_all cs g.locals os) (same_ref_self null) (k (λ o j. c o (in_more o null os ∙ or_right (same_ref o null) (is_in o os) j))))
  claimed_gave (ClaimedOther x ty ∷ cs) n e =
      let b = and_both (claimed_ok p f (ClaimedOther x ty)) (every (claimed_ok p f) cs) e in
      let t = has_type_inversion x ty (and_both (has_type p f x ty) (are_refs (declared ty)) b.0).0 in
      after_gave (eval p at_ g.heap g.locals x n) (λ v. after (run_claimed p at_ cs (n + checks x) g) (λ os. Gives (referent v ∷ os))) (λ v. is_of p t.0 v ≡ true)
      (λ os. AllClosed os → may_claim_all (ClaimedOther x ty ∷ cs) g.locals os ≡ true)
      (eval_of p typed f at_ g.heap g.locals env x t.0 t.1 n) (λ v i.
      after_gave (run_claimed p at_ cs (n + checks x) g) (λ os. Gives (referent v ∷ os)) (λ os. AllClosed os → may_claim_all cs g.locals os ≡ true)
      (λ os. AllClosed os → may_claim_all (ClaimedOther x ty ∷ cs) g.locals os ≡ true) (claimed_gave cs (n + checks x) b.1)
      (λ os k c. both_and (in_type ty (Refers (referent v))) (may_claim_all cs g.locals os)
      (claimed_type ty v (to_type p t.0 ty v t.2 i)
      (c (referent v) (in_more (referent v) (referent v) os ∙ or_left (same_ref (referent v) (referent v)) (is_in (referent v) os) (same_ref_self (referent v)))))
      (k (λ o j. c o (in_more o (referent v) os ∙ or_right (same_ref o (referent v)) (is_in o os) j)))))

  -- A claim made.

  module _ (c : Ref) (supply : Supply) (objects : List Ref) (es : List Entry) (place : Place) (n : ℕ) (tally : Tally) (making : Making p g.heap at_.context.me c objects es)
      (counts : (o : Ref) → is_in o objects ≡ true → may_count at_ g.heap o ≡ true) where
    k : Heap
    k = with_claim p g.heap at_.context.me c objects es env.heap making

    abbrev claimed_progress : Progress
    claimed_progress = record g {
      heap = count_more (pos 1) objects
          (put g.heap c (new_claim at_.context.me objects es));
      supply = supply;
      changed = g.changed ++ deferred_from tally.objects objects;
      made = g.made ++ deferred_from tally.claims (c ∷ []);
    }

    note_changed : (o : Ref) → is_in o objects ≡ true → noted claimed_progress.changed o ≡ true
    note_changed o i = noted_both g.changed (deferred_from tally.objects objects) o ∙ or_right (noted g.changed o) (noted (deferred_from tally.objects objects) o)
        (noted_from tally.objects objects o ∙ i)

    note_made : noted claimed_progress.made c ≡ true
    note_made = noted_both g.made (deferred_from tally.claims (c ∷ [])) c ∙ or_right (noted g.made c) (noted (deferred_from tally.claims (c ∷ [])) c)
        (noted_from tally.claims (c ∷ []) c ∙ in_one_self c)

    abbrev tested : Ref → Bool
    tested = tested_by (is_listed at_) claimed_progress

    tested_changed : (o : Ref) → noted claimed_progress.changed o ≡ true → tested o ≡ true
    tested_changed o e = or_right (is_listed at_ o && not (is_claim o)) (noted claimed_progress.changed o || noted claimed_progress.made o)
        (or_left (noted claimed_progress.changed o) (noted claimed_progress.made o) e)

    tested_made : (o : Ref) → noted claimed_progress.made o ≡ true → tested o ≡ true
    tested_made o e = or_right (is_listed at_ o && not (is_claim o)) (noted claimed_progress.changed o || noted claimed_progress.made o)
        (or_right (noted claimed_progress.changed o) (noted claimed_progress.made o) e)

    grown : (o : Ref) → tested_by (is_listed at_) g o ≡ true → tested o ≡ true
    grown o e = ⊎_elim
        (λ a. or_left (is_listed at_ o && not (is_claim o)) (noted claimed_progress.changed o || noted claimed_progress.made o) a)
        (λ a. ⊎_elim
        (λ b. tested_changed o (noted_both g.changed (deferred_from tally.objects objects) o ∙ or_left (noted g.changed o) (noted (deferred_from tally.objects objects) o) b))
        (λ b. tested_made o (noted_both g.made (deferred_from tally.claims (c ∷ [])) o ∙ or_left (noted g.made o) (noted (deferred_from tally.claims (c ∷ [])) o) b))
        (or_cases (noted g.changed o) (noted g.made o) a))
        (or_cases (is_listed at_ o && not (is_claim o)) (noted g.changed o || noted g.made o) e)

    abbrev PartOf : Ref → Record → Type 0
    PartOf o r = Part p (is_listed at_) tested o (g.heap.get o) r

    was_nothing : g.heap.get c ≡ nothing
    was_nothing = env.heap.absent c making.new

    pub claimed_fine : Fine p f at_.context (is_listed at_) g claimed_progress
    claimed_fine = record {
      ready = record { heap = made_well_formed p g.heap at_.context.me c objects es env.heap making; types = env.types; locals = env.locals };
      parts = at_made p g.heap at_.context.me c objects es env.heap making PartOf
          (record {
            owner = inr (record { from = ap (λ (r : Record). is_free (is_listed at_) r.owner) was_nothing ∙ null_free (is_listed at_); to = thread_free (is_listed at_) at_.context.me thread });
            kept = inr (record { from = ap (λ (r : Record). is_free (is_listed at_) r.owner) was_nothing ∙ null_free (is_listed at_); to = thread_free (is_listed at_) at_.context.me thread });
            fixed = λ a b. absurd (not_both (closed_in g.heap c) a (ap is_closed making.new));
            change = owed (tested_made c note_made);
          })
          (λ o i. record {
            owner = inl refl;
            kept = inr (record { from = owned_free p typed f at_ thread g.heap o (counts o i); to = owned_free p typed f at_ thread g.heap o (counts o i) });
            fixed = λ a b. record { fields = λ f e. refl; owned = λ e. refl; listed = refl; shapes = refl };
            change = owed (tested_changed o (note_changed o i));
          })
          (λ o i d. same_part p (is_listed at_) tested o (g.heap.get o));
      onward = at_made p g.heap at_.context.me c objects es env.heap making (λ o r. Onward o (g.heap.get o) r)
          (record { freed = λ e. cc (making.new, e); closed = λ e. absurd (not_both (closed_in g.heap c) e (ap is_closed making.new)) })
          (λ o i. onward_same o (g.heap.get o) (counted (pos 1) (g.heap.get o)) refl)
          (λ o i d. onward_same o (g.heap.get o) (g.heap.get o) refl);
      apart = at_made p g.heap at_.context.me c objects es env.heap making (λ o r. Apart p at_.context none_new o (g.heap.get o) r)
          (apart_none p at_.context none_new c (g.heap.get c) (new_claim at_.context.me objects es) (ap (λ (r : Record). is_thread r.owner) was_nothing) (λ w th ne nn e. ne (sym e)))
          (λ o i. apart_still p at_.context none_new o (g.heap.get o) (counted (pos 1) (g.heap.get o)) refl (making.closed o i) (making.closed o i)
          (λ w th sp e. absurd (no_part p typed f at_ thread g.heap o env.heap lists (counts o i) w th sp e)))
          (λ o i d. apart_same p at_.context none_new o (g.heap.get o));
      grows = grown;
      started = refl;
    }

    claim_shapes : (claimed_progress.heap.get c).shapes ≡ entries_of es
    claim_shapes = at_made p g.heap at_.context.me c objects es env.heap making (λ o r. same_ref o c ≡ true → r.shapes ≡ entries_of es) (λ e. refl)
        (λ o i e. absurd (not_both (closed_in g.heap c) (subst (λ (x : Ref). closed_in g.heap x ≡ true) (same_ref_is o c e) (making.closed o i)) (ap is_closed making.new)))
        (λ o i d e. absurd (not_both (same_ref o c) e d)) c (same_ref_self c)

    claim_value : is_of p (Refs Claim) (Refers c) ≡ true
    claim_value = is_claim_value p c making.claim

    owes :
        IsClean g → every (λ (t : Tested). t.holds) (map (entry_test p (stored_heap place (Refers c) claimed_progress.heap)) es) ≡ true →
        every (λ (t : Tested). t.holds) (map (λ o. inv_test p o g.heap (stored_heap place (Refers c) claimed_progress.heap)) objects) ≡ true →
        (o : Ref) → noted claimed_progress.changed o || noted claimed_progress.made o ≡ true → Inv p o g.heap (stored_heap place (Refers c) claimed_progress.heap)
    owes clean te ti o e = ⊎_elim
        (λ a. ⊎_elim (λ b. absurd (clean o (or_left (noted g.changed o) (noted g.made o) b)))
        (λ b. tests_at p g.heap (stored_heap place (Refers c) claimed_progress.heap) objects o ti (sym (noted_from tally.objects objects o) ∙ b))
        (or_cases (noted g.changed o) (noted (deferred_from tally.objects objects) o) (sym (noted_both g.changed (deferred_from tally.objects objects) o) ∙ a)))
        (λ a. ⊎_elim (λ b. absurd (clean o (or_right (noted g.changed o) (noted g.made o) b)))
        (λ b. subst (λ (x : Ref). Inv p x g.heap (stored_heap place (Refers c) claimed_progress.heap)) (sym (in_one o c (sym (noted_from tally.claims (c ∷ []) o) ∙ b)))
        (claim_inv p c g.heap (stored_heap place (Refers c) claimed_progress.heap) es making.claim (stored_shapes place (Refers c) claimed_progress.heap c ∙ claim_shapes)
        (entry_tests_at p (stored_heap place (Refers c) claimed_progress.heap) es te)))
        (or_cases (noted g.made o) (noted (deferred_from tally.claims (c ∷ [])) o) (sym (noted_both g.made (deferred_from tally.claims (c ∷ [])) o) ∙ a)))
        (or_cases (noted claimed_progress.changed o) (noted claimed_progress.made o) e)

    pub claim_made_gave : OnGave (claim_made p at_ c supply objects es place n tally claimed_progress.heap g) (Right p f at_ place (Refs Claim) g)
    claim_made_gave = by at_.inside refl
      where
        done : Valued
        done = record { value = Refers c; starting = claimed_progress }

        h2 : Heap
        h2 = stored_heap place (Refers c) claimed_progress.heap

        by :
            (b : Bool) → at_.inside ≡ b →
            OnGave (cond b (Gives (record { value = Refers c; starting = claimed_progress }))
            (check_specs at_ (map (entry_test p (stored_heap place (Refers c) claimed_progress.heap)) es) n MakeClaim
            (check_specs at_ (map (λ o. inv_test p o g.heap (stored_heap place (Refers c) claimed_progress.heap)) objects) (n + length es) Invariant
            (Gives (record { value = Refers c; starting = claimed_progress }))))) (Right p f at_ place (Refs Claim) g)
        by true e = record { value = claim_value; fine = claimed_fine; tests = λ out. absurd (not_both at_.inside e out) }
        by false e =
            check_specs_gave at_ (map (entry_test p (stored_heap place (Refers c) claimed_progress.heap)) es) n MakeClaim
            (check_specs at_ (map (λ o. inv_test p o g.heap (stored_heap place (Refers c) claimed_progress.heap)) objects) (n + length es) Invariant
            (Gives (record { value = Refers c; starting = claimed_progress }))) (Right p f at_ place (Refs Claim) g) (λ te.
            check_specs_gave at_ (map (λ o. inv_test p o g.heap (stored_heap place (Refers c) claimed_progress.heap)) objects) (n + length es) Invariant
            (Gives (record { value = Refers c; starting = claimed_progress })) (Right p f at_ place (Refs Claim) g) (λ ti.
            record { value = claim_value; fine = claimed_fine; tests = λ out clean o e. owes clean te ti o e }))

  pub site_parts : (fi : FunctionInfo) (site : ClaimSite) → site_ok p (Some fi) site ≡ true →
      (every (claimed_named site.variables.items) site.claimed.items && every (λ (c : Conjunct). every (hole_named site.variables.items) c.holes.items) site.conjuncts.items ≡ true) × (every
      (claimed_ok p fi) site.claimed.items ≡ true) × (every (λ i. nat_lt i (length fi.variables.items)) site.variables.items ≡ true) × (every
      (λ (c : Conjunct). shape_ok fi c.holes.items (slice_get p.shapes.items c.shape)) site.conjuncts.items ≡ true)
  site_parts fi site e = four (names_all site) (every (claimed_ok p fi) site.claimed.items) (every (λ i. nat_lt i (length fi.variables.items)) site.variables.items)
      (every (λ (c : Conjunct). shape_ok fi c.holes.items (slice_get p.shapes.items c.shape)) site.conjuncts.items) e
    where
      four : (a b c d : Bool) → a && b && c && d ≡ true → (a ≡ true) × (b ≡ true) × (c ≡ true) × (d ≡ true)
      four true true true true e = (refl, refl, refl, refl)
      four true true true false e = absurd (cc)
      four true true false d e = absurd (cc)
      four true false c d e = absurd (cc)
      four false b c d e = absurd (cc)

  -- what is to be known of the claim and its objects, where the tests passed
  pub making_of :
      (num : ℕ) (site : ClaimSite) (objects : List Ref) (t : Took) → slice_get p.sites.items num ≡ Some site → slice_get p.functions.items site.function ≡ Some f →
      (AllClosed objects → may_claim_all site.claimed.items g.locals objects ≡ true) → every (λ b. b) (claim_tests p at_ g.heap [] objects) ≡ true → Taken 2 g.heap t →
      Making p g.heap at_.context.me t.which objects (map (entry_of (scene at_.context g.heap g.locals)) site.conjuncts.items)
  making_of num site objects t is fis may te new =
      let s = site_parts f site (subst (λ o. site_ok p o site ≡ true) fis (typed.sites num site is)) in
      let names = and_both (every (claimed_named site.variables.items) site.claimed.items) (every (λ (c : Conjunct). every (hole_named site.variables.items) c.holes.items) site.conjuncts.items) s.0 in
      let es = map (entry_of (scene at_.context g.heap g.locals)) site.conjuncts.items in
      let same_es : es ≡ site_entries site at_.context.me g.locals = same_entries p f at_ g.heap g.locals env thread site.variables.items site.conjuncts.items names.1 in
      let cl = claimable_by p at_ g.heap [] objects te in
      record {
        claim = new.type_is;
        new = new.absent;
        thread = thread;
        distinct = cl.distinct;
        closed = λ o i. (cl.each o i).1;
        claimable = λ o i. (cl.each o i).0;
        made = record {
          number = num;
          site = site;
          me = at_.context.me;
          locals = g.locals;
          objects = objects;
          is = is;
          values = record {
            me_thread = thread;
            variables = subst (λ o. types_hold o site.variables.items g.locals ≡ true) (sym fis) (site_variables p f at_ g.heap g.locals env thread site.variables.items s.2);
            claimed = may (λ o i. (cl.each o i).1);
          };
          count = refl;
          owned = refl;
          listed = refl;
          shapes = ap entries_of same_es;
        };
        entries = every_entries (λ e. is_entry (slice_get p.shapes.items e.shape) e.values) es ∙ ap (every (λ e. is_entry (slice_get p.shapes.items e.shape) e.values)) same_es
            ∙ conjuncts_sort p f at_ g.heap g.locals env thread site.variables.items site.conjuncts.items s.2 names.1 s.3;
      }

  pub make_claim_gave :
      (num : ℕ) (site : ClaimSite) (place : Place) (n : ℕ) (tally : Tally) → slice_get p.sites.items num ≡ Some site →
      slice_get p.functions.items site.function ≡ Some f → OnGave (make_claim p at_ (Some site) place n tally g) (Right p f at_ place (Refs Claim) g)
  make_claim_gave num site place n tally is fis =
      let s = site_parts f site (subst (λ o. site_ok p o site ≡ true) fis (typed.sites num site is)) in
      let m = n + claimed_checks site.claimed.items in
      let es = map (entry_of (scene at_.context g.heap g.locals)) site.conjuncts.items in
      after_gave (run_claimed p at_ site.claimed.items n g)
      (λ objects. check_each at_ (claim_tests p at_ g.heap [] objects) m MakeClaim
      (after (take_object g.supply 2 g.heap) (λ t. claim_made p at_ t.which t.supply objects es place (m + length objects + 1) tally
      (count_more (pos 1) objects (put g.heap t.which (new_claim at_.context.me objects es))) g)))
      (λ os. AllClosed os → may_claim_all site.claimed.items g.locals os ≡ true) (Right p f at_ place (Refs Claim) g)
      (claimed_gave site.claimed.items n s.1) (λ objects may.
      check_each_gave at_ (claim_tests p at_ g.heap [] objects) m MakeClaim
      (after (take_object g.supply 2 g.heap) (λ t. claim_made p at_ t.which t.supply objects es place (m + length objects + 1) tally
      (count_more (pos 1) objects (put g.heap t.which (new_claim at_.context.me objects es))) g)) (Right p f at_ place (Refs Claim) g) (λ te.
      let cl = claimable_by p at_ g.heap [] objects te in
      after_gave (take_object g.supply 2 g.heap)
      (λ t. claim_made p at_ t.which t.supply objects es place (m + length objects + 1) tally (count_more (pos 1) objects (put g.heap t.which (new_claim at_.context.me objects es))) g)
      (Taken 2 g.heap) (Right p f at_ place (Refs Claim) g) (take_object_gave p g.supply 2 g.heap env.heap) (λ t new.
      claim_made_gave t.which t.supply objects es place (m + length objects + 1) tally
      (making_of num site objects t is fis may te new)
      (λ o i. (cl.each o i).2))))

  -- A claim ended.

  pub record May (c : Ref) (objects : List Ref) : Type 0 where
    pub claim : is_claim c ≡ true
    pub wrap : wrapped at_.context.me g.heap c ≡ true
    pub write : may_write at_ c ≡ true
    pub distinct : all_distinct objects ≡ true
    pub listed : every (λ o. is_in o (g.heap.get c).listed) objects ≡ true
    pub all : every (λ o. is_in o objects) (g.heap.get c).listed ≡ true

  pub may_parts : (c : Ref) (objects : List Ref) → may_end p at_ c objects g.heap ≡ true → May c objects
  may_parts c objects e =
      let l = every (λ o. is_in o (g.heap.get c).listed) objects in
      let x = every (λ o. is_in o objects) (g.heap.get c).listed in
      let a = and_both (is_claim c) (wrapped at_.context.me g.heap c && (may_write at_ c && (all_distinct objects && (l && x)))) e in
      let b = and_both (wrapped at_.context.me g.heap c) (may_write at_ c && (all_distinct objects && (l && x))) a.1 in
      let d = and_both (may_write at_ c) (all_distinct objects && (l && x)) b.1 in
      let h = and_both (all_distinct objects) (l && x) d.1 in
      let i = and_both l x h.1 in
      record { claim = a.0; wrap = b.0; write = d.0; distinct = h.0; listed = i.0; all = i.1 }

  pub exactly : (xs ys : List Ref) → every (λ o. is_in o xs) ys ≡ true → every (λ o. is_in o ys) xs ≡ true → (o : Ref) → is_in o xs ≡ is_in o ys
  exactly xs ys a b o = by (is_in o xs) (is_in o ys) (λ i. every_in (λ o. is_in o ys) xs o b i) (λ i. every_in (λ o. is_in o xs) ys o a i)
    where
      by : (x y : Bool) → (x ≡ true → y ≡ true) → (y ≡ true → x ≡ true) → x ≡ y
      by true y f g = sym (f refl)
      by false true f g = g refl
      by false false f g = refl

  -- what the end of a claim owes outside
  pub record Ended (g' : Progress) : Type 0 where
    pub fine : Fine p f at_.context (is_listed at_) g g'
    pub tests : at_.inside ≡ false → IsClean g → (o : Ref) → noted g'.changed o || noted g'.made o ≡ true → Inv p o g.heap g'.heap

  module _ (c : Ref) (objects : List Ref) (tally : Tally) (ending : Ending p g.heap at_.context.me c objects) (may : may_write at_ c ≡ true)
      (counts : (o : Ref) → is_in o objects ≡ true → may_count at_ g.heap o ≡ true) where
    abbrev ended_progress : Progress
    ended_progress = record g { heap = count_more (negsuc 0) objects (put g.heap c (record (g.heap.get c) { mode = Freed; owner = null })); changed = g.changed ++ deferred_from tally.objects objects }

    abbrev ended_tested : Ref → Bool
    ended_tested = tested_by (is_listed at_) ended_progress

    ended_note : (o : Ref) → noted ended_progress.changed o ≡ true → ended_tested o ≡ true
    ended_note o e = or_right (is_listed at_ o && not (is_claim o)) (noted ended_progress.changed o || noted ended_progress.made o)
        (or_left (noted ended_progress.changed o) (noted ended_progress.made o) e)

    ended_object : (o : Ref) → is_in o objects ≡ true → ended_tested o ≡ true
    ended_object o i = ended_note o (noted_both g.changed (deferred_from tally.objects objects) o ∙ or_right (noted g.changed o)
        (noted (deferred_from tally.objects objects) o) (noted_from tally.objects objects o ∙ i))

    ended_grown : (o : Ref) → tested_by (is_listed at_) g o ≡ true → ended_tested o ≡ true
    ended_grown o e = ⊎_elim
        (λ a. or_left (is_listed at_ o && not (is_claim o)) (noted ended_progress.changed o || noted ended_progress.made o) a)
        (λ a. ⊎_elim
        (λ b. ended_note o (noted_both g.changed (deferred_from tally.objects objects) o ∙ or_left (noted g.changed o) (noted (deferred_from tally.objects objects) o) b))
        (λ b. or_right (is_listed at_ o && not (is_claim o)) (noted ended_progress.changed o || noted ended_progress.made o)
        (or_right (noted ended_progress.changed o) (noted ended_progress.made o) b))
        (or_cases (noted g.changed o) (noted g.made o) a))
        (or_cases (is_listed at_ o && not (is_claim o)) (noted g.changed o || noted g.made o) e)

    ended_fine : Fine p f at_.context (is_listed at_) g ended_progress
    ended_fine = record {
      ready = record { heap = ended_well_formed p g.heap at_.context.me c objects env.heap ending; types = env.types; locals = env.locals };
      parts = at_ended p g.heap at_.context.me c objects env.heap ending (λ o r. Part p (is_listed at_) ended_tested o (g.heap.get o) r)
          (record {
            owner = inr (record { from = thread_free (is_listed at_) (g.heap.get c).owner (ap is_thread ending.owner ∙ thread); to = null_free (is_listed at_) });
            kept = inl (refl, record { fields = λ f a. refl });
            fixed = λ a b. absurd (cc);
            change = ended ending.claim refl;
          })
          (λ o i. record {
            owner = inl refl;
            kept = inr (record { from = owned_free p typed f at_ thread g.heap o (counts o i); to = owned_free p typed f at_ thread g.heap o (counts o i) });
            fixed = λ a b. record { fields = λ f e. refl; owned = λ e. refl; listed = refl; shapes = refl };
            change = owed (ended_object o i);
          })
          (λ o i d. same_part p (is_listed at_) ended_tested o (g.heap.get o));
      onward = at_ended p g.heap at_.context.me c objects env.heap ending (λ o r. Onward o (g.heap.get o) r)
          (record { freed = λ e. refl; closed = λ e. inr (ending.claim, refl) })
          (λ o i. onward_same o (g.heap.get o) (counted (negsuc 0) (g.heap.get o)) refl)
          (λ o i d. onward_same o (g.heap.get o) (g.heap.get o) refl);
      apart = at_ended p g.heap at_.context.me c objects env.heap ending (λ o r. Apart p at_.context none_new o (g.heap.get o) r)
          (apart_mine p at_.context none_new c (g.heap.get c) (record (g.heap.get c) { mode = Freed; owner = null }) ending.owner may
          (λ w th ne nn e. not_both (is_thread w) th (ap is_thread (sym e))))
          (λ o i. let l = object_listed p g.heap at_.context.me c objects env.heap ending o i in apart_still p at_.context none_new o (g.heap.get o)
          (counted (negsuc 0) (g.heap.get o)) refl l.0 l.0 (λ w th sp e. absurd (no_part p typed f at_ thread g.heap o env.heap lists (counts o i) w th sp e)))
          (λ o i d. apart_same p at_.context none_new o (g.heap.get o));
      grows = ended_grown;
      started = refl;
    }

    ended_owes :
        IsClean g → every (λ (t : Tested). t.holds) (map (λ o. inv_test p o g.heap ended_progress.heap) objects) ≡ true → (o : Ref) →
        noted ended_progress.changed o || noted ended_progress.made o ≡ true → Inv p o g.heap ended_progress.heap
    ended_owes clean te o e = ⊎_elim
        (λ a. ⊎_elim (λ b. absurd (clean o (or_left (noted g.changed o) (noted g.made o) b))) (λ b. tests_at p g.heap ended_progress.heap objects o te (sym (noted_from tally.objects objects o) ∙ b))
        (or_cases (noted g.changed o) (noted (deferred_from tally.objects objects) o) (sym (noted_both g.changed (deferred_from tally.objects objects) o) ∙ a)))
        (λ b. absurd (clean o (or_right (noted g.changed o) (noted g.made o) b)))
        (or_cases (noted ended_progress.changed o) (noted ended_progress.made o) e)

    ended_gave : (n : ℕ) → OnGave (check_specs at_ (cond at_.inside [] (map (λ o. inv_test p o g.heap ended_progress.heap) objects)) n Invariant (Gives ended_progress)) Ended
    ended_gave n = by at_.inside refl
      where
        by : (b : Bool) → at_.inside ≡ b → OnGave (check_specs at_ (cond b [] (map (λ o. inv_test p o g.heap ended_progress.heap) objects)) n Invariant (Gives ended_progress)) Ended
        by true e = record { fine = ended_fine; tests = λ out. absurd (not_both at_.inside e out) }
        by false e = check_specs_gave at_ (map (λ o. inv_test p o g.heap ended_progress.heap) objects) n Invariant (Gives ended_progress) Ended
            (λ te. record { fine = ended_fine; tests = λ out clean o x. ended_owes clean te o x })

  pub counts_at : (os : List Ref) → every (λ b. b) (map (may_count at_ g.heap) os) ≡ true → (o : Ref) → is_in o os ≡ true → may_count at_ g.heap o ≡ true
  counts_at [] e o i = absurd (cc (in_none o))
  counts_at (x ∷ xs) e o i =
      let b = and_both (may_count at_ g.heap x) (every (λ b. b) (map (may_count at_ g.heap) xs)) e in
      ⊎_elim (λ s. subst (λ (y : Ref). may_count at_ g.heap y ≡ true) (sym (same_ref_is o x s)) b.0) (λ j. counts_at xs b.1 o j) (or_cases (same_ref o x) (is_in o xs) (sym (in_more o x xs) ∙ i))

  pub end_claim_gave : (c : Ref) (objects : List Ref) (n : ℕ) (tally : Tally) → OnGave (end_claim p at_ c objects n tally g) Ended
  end_claim_gave c objects n tally =
      let h1 = count_more (negsuc 0) objects (put g.heap c (record (g.heap.get c) { mode = Freed; owner = null })) in
      let done = Gives (record g { heap = h1; changed = g.changed ++ deferred_from tally.objects objects }) in
      let last = check_specs at_ (cond at_.inside [] (map (λ o. inv_test p o g.heap h1) objects)) (n + 1 + length objects) Invariant done in
      check_gave at_ (may_end p at_ c objects g.heap) n DestroyClaim (check_each at_ (map (may_count at_ g.heap) objects) (n + 1) DestroyClaim last) Ended (λ e.
      let m = may_parts c objects e in
      let w = wrapped_parts at_.context.me g.heap c m.wrap in
      check_each_gave at_ (map (may_count at_ g.heap) objects) (n + 1) DestroyClaim last Ended (λ ce.
      ended_gave c objects tally (record {
        claim = m.claim;
        closed = w.0;
        owner = w.1;
        thread = thread;
        distinct = m.distinct;
        exact = exactly
            (g.heap.get c).listed objects m.listed m.all;
      }) m.write (counts_at objects ce) (n + 1 + length objects)))
