-- What the parts of a statement do, one after the other.
use Rattle.std.proofs.Common.{◌≡◌, ℕ, ◌+◌, Bool, true, false, not, ◌&&◌, ◌||◌, ◌==◌, ◌⊎◌, inl, inr, ⊎_elim, refl, sym, ap, ◌∙◌, subst, List, [], ◌∷◌, ◌++◌, Some, slice_get, slice_set}
use Rattle.std.proofs.lemmas.Bool.{eqb-true, eq-eqb}
use Rattle.object_types.specs.declared.references.Ref.{Ref}
use Rattle.object_types.specs.declared.values.Value.{Value}
use Rattle.object_types.specs.declared.records.Mode.TheVariants.{Absent}
use Rattle.method.specs.declared.program.CheckKind.TheVariants.{Write, Writes}
use Rattle.method.specs.declared.program.FieldInfo.{FieldInfo}
use Rattle.method.specs.declared.program.VariableInfo.{VariableInfo}
use Rattle.method.specs.declared.program.FunctionInfo.{FunctionInfo}
use Rattle.method.specs.declared.program.Program.{Program}
use Rattle.object_types.specs.References.{null, same_ref, ref_lt, is_null, is_reference, is_thread, is_claim}
use Rattle.object_types.specs.Sets.{every, is_in, is_ordered}
use Rattle.object_types.specs.Heap.{Heap, Record, put, write, is_closed, is_open, closed_in, mutable, with_field}
use Rattle.method.specs.Tables.{in_type, type_of_field, field_type, is_field_of, belongs, is_volatile, is_approved, has_volatile_owns}
use Rattle.method.specs.WellFormed.{is_value, KeepsApproved, WellFormed}
use Rattle.method.specs.Typing.{Values, fits, WellTyped}
use Rattle.method.specs.Expressions.{Gives, Spot, check, is_listed, may_write, Context}
use Rattle.method.specs.Actions.{Place, InLocal, InField, Progress, Deferred, heap_of, deferred_from, may_count, store}
use Rattle.method.proofs.Global.{and_both, both_and, same_ref_is}
use Rattle.machine_laws.proofs.Outcomes.{OnGave, check_gave}
use Rattle.machine_laws.proofs.Typed.{not_both, or_cases, or_left, null_is, struct_type, is_of, to_type, typed_set, Env}
use Rattle.machine_laws.proofs.Heaps.{false_from_ne_true, not-true, in_more, in_none, open_not_closed, closed_not, mutable_parts, at_put, at_hand, or_regroup}
use Rattle.machine_laws.proofs.Records.{IsRecord, record_of, written, field_other, shifted, value_of_type}
use Rattle.machine_laws.proofs.Links.{Quiet, quiet_put, Transfer, moved_on, transferred}
use Rattle.machine_laws.proofs.Apart.{Spares, Apart, apart_same, apart_trans, apart_mine, apart_still}
use Rattle.machine_laws.proofs.Parts.{is_free, thread_free, listed_free, FixedRecord, Between, same, loose, owed, Part, Onward, onward_same, onward_trans, same_part, part_more, part_trans}

thread_no_claim : (w : Ref) → is_thread w ≡ true → is_claim w ≡ false
thread_no_claim w e = ap (λ n. n == 2) (eqb-true w.ty 1 e)

-- the references that are noted for the block's end
abbrev pub noted : List Deferred → Ref → Bool
noted [] o = false
noted (d ∷ ds) o = same_ref o d.which || noted ds o

pub noted_both : (xs ys : List Deferred) (o : Ref) → noted (xs ++ ys) o ≡ noted xs o || noted ys o
noted_both [] ys o = refl
noted_both (d ∷ ds) ys o = ap (λ z. same_ref o d.which || z) (noted_both ds ys o) ∙ or_regroup (same_ref o d.which) (noted ds o) (noted ys o)

pub noted_from : (n : ℕ) (os : List Ref) (o : Ref) → noted (deferred_from n os) o ≡ is_in o os
noted_from n [] o = sym (in_none o)
noted_from n (x ∷ xs) o = ap (λ z. same_ref o x || z) (noted_from (n + 1) xs o) ∙ sym (in_more o x xs)

-- the invariants that a step owes
abbrev pub tested_by : (Ref → Bool) → Progress → Ref → Bool
tested_by listed g o = (listed o && not (is_claim o)) || (noted g.changed o || noted g.made o)

-- no thread is new
abbrev pub none_new : Ref → Bool
none_new w = false

-- a part of a statement, in the function's run x, leads from g to g'
pub record Fine (p : Program) (f : FunctionInfo) (x : Context) (listed : Ref → Bool) (g g' : Progress) : Type 0 where
  pub ready : Env p f g'.heap g'.locals
  pub parts : (o : Ref) → Part p listed (tested_by listed g') o (g.heap.get o) (g'.heap.get o)
  pub onward : (o : Ref) → Onward o (g.heap.get o) (g'.heap.get o)
  pub apart : (o : Ref) → Apart p x none_new o (g.heap.get o) (g'.heap.get o)
  pub grows : (o : Ref) → tested_by listed g o ≡ true → tested_by listed g' o ≡ true
  pub started : g'.started ≡ g.started

pub fine_same : (p : Program) (f : FunctionInfo) (x : Context) (listed : Ref → Bool) (g : Progress) → Env p f g.heap g.locals → Fine p f x listed g g
fine_same p f x listed g env = record {
  ready = env;
  parts = λ o. same_part p listed (tested_by listed g) o (g.heap.get o);
  onward = λ o. onward_same o
      (g.heap.get o) (g.heap.get o) refl;
  apart = λ o. apart_same p x none_new o (g.heap.get o);
  grows = λ o e. e;
  started = refl;
}

pub fine_trans : (p : Program) (f : FunctionInfo) (t : Context) (listed : Ref → Bool) (a b c : Progress) → Fine p f t listed a b → Fine p f t listed b c → Fine p f t listed a c
fine_trans p f t listed a b c x y = record {
  ready = y.ready;
  parts = λ o. part_trans p listed (tested_by listed c) o (a.heap.get o) (b.heap.get o) (c.heap.get o) (x.onward o) (y.onward o)
      (part_more p listed (tested_by listed b) (tested_by listed c) o (a.heap.get o) (b.heap.get o) (y.grows o) (x.parts o)) (y.parts o);
  onward = λ o. onward_trans o (a.heap.get o) (b.heap.get o) (c.heap.get o) (x.onward o) (y.onward o);
  apart = λ o. apart_trans p t none_new o (a.heap.get o) (b.heap.get o) (c.heap.get o) (x.apart o) (y.apart o);
  grows = λ o e. y.grows o (x.grows o e);
  started = y.started ∙ x.started;
}

-- the listed objects are closed, but for claims that ended
abbrev pub ListedClosed : (Ref → Bool) → Heap → Type 0
ListedClosed listed h = (o : Ref) → listed o ≡ true → is_claim o ≡ false → closed_in h o ≡ true

pub still_listed : (p : Program) (f : FunctionInfo) (t : Context) (listed : Ref → Bool) (g g' : Progress) → Fine p f t listed g g' → ListedClosed listed g.heap → ListedClosed listed g'.heap
still_listed p f t listed g g' x l o e c = ⊎_elim (λ d. d) (λ d. absurd (not_both (is_claim o) d.0 c)) ((x.onward o).closed (l o e c))

-- One record put, which is tested or loose.

pub record Putting (p : Program) (t : Context) (listed tested : Ref → Bool) (h : Heap) (o : Ref) (r : Record) : Type 0 where
  pub quiet : Quiet p h o r
  pub part : Part p listed tested o (h.get o) r
  pub onward : Onward o (h.get o) r
  pub apart : Apart p t none_new o (h.get o) r

pub putting_fine :
    (p : Program) (f : FunctionInfo) (t : Context) (listed : Ref → Bool) (g : Progress) (o : Ref) (r : Record) → Env p f g.heap g.locals →
    Putting p t listed (tested_by listed g) g.heap o r → Fine p f t listed g (heap_of g (put g.heap o r))
putting_fine p f t listed g o r env x = record {
  ready = record { heap = quiet_put p g.heap o r env.heap x.quiet; types = env.types; locals = env.locals };
  parts = at_put (λ q s. Part p listed (tested_by listed g) q (g.heap.get q) s) g.heap o r x.part (λ q d. same_part p listed (tested_by listed g) q (g.heap.get q));
  onward = at_put (λ q s. Onward q (g.heap.get q) s) g.heap o r x.onward (λ q d. onward_same q (g.heap.get q) (g.heap.get q) refl);
  apart = at_put (λ q s. Apart p t none_new q (g.heap.get q) s) g.heap o r x.apart (λ q d. apart_same p t none_new q (g.heap.get q));
  grows = λ q e. e;
  started = refl;
}

module _ (p : Program) (typed : WellTyped p) (f : FunctionInfo) (at_ : Spot) (thread : is_thread at_.context.me ≡ true) where
  abbrev listing : Ref → Bool
  listing = is_listed at_

  pub owned_free : (h : Heap) (o : Ref) → may_count at_ h o ≡ true → is_free listing (h.get o).owner ≡ true
  owned_free h o e = ⊎_elim
      (λ a. thread_free listing (h.get o).owner (ap is_thread (same_ref_is (h.get o).owner at_.context.me (and_both (same_ref (h.get o).owner at_.context.me) (may_write at_ o) a).0) ∙ thread))
      (λ a. listed_free listing (h.get o).owner a)
      (or_cases (same_ref (h.get o).owner at_.context.me && may_write at_ o) (is_listed at_ (h.get o).owner) e)

  -- A value stored.

  -- where a value of this kind may go
  abbrev pub PlaceOk : Place → Values → Type 0
  PlaceOk (InLocal i) vs = (w : VariableInfo) × (slice_get f.variables.items i ≡ Some w) × (fits vs w.ty ≡ true)
  PlaceOk (InField o g) vs = (i : FieldInfo) × (slice_get p.fields.items g ≡ Some i) × ((is_null o ≡ true) ⊎ (o.ty == i.of ≡ true)) × (fits vs i.ty ≡ true)

  -- where the field may be written
  abbrev may_store : Heap → Ref → ℕ → Bool
  may_store h o g = mutable at_.context.me h o || (is_listed at_ o && (is_volatile p g && (not (is_approved p g) || may_count at_ h o)))

  record Storing (h : Heap) (o : Ref) (g : ℕ) (v : Value) : Type 0 where
    of_it : is_field_of p g o.ty ≡ true
    fits_it : in_type (type_of_field p g) v ≡ true
    value : is_value v ≡ true
    struct : is_claim o ≡ false

  -- what is open, and stays so, is loose
  loose_part : (t : Ref → Bool) (o : Ref) (r s : Record) → is_closed r.mode ≡ false → is_closed s.mode ≡ false → s.owner ≡ r.owner → is_thread r.owner ≡ true → Part p listing t o r s
  loose_part t o r s a b e th = record {
    owner = inl e;
    kept = inr (record { from = thread_free listing r.owner th; to = thread_free listing s.owner (ap is_thread e ∙ th) });
    fixed = λ c d. absurd (not_both (is_closed r.mode) c a);
    change = loose a b;
  }

  written_quiet : (h : Heap) (o : Ref) (n : ℕ) (v : Value) → WellFormed p h → Storing h o n v → ((h.get o).mode ≡ Absent → ⊥) → Quiet p h o (with_field n v (h.get o))
  written_quiet h o n v wf s was = record {
    pivot = written p o (h.get o) n v
        (record_of p h wf o) was s.of_it s.fits_it s.value;
    closed = refl;
    owner = λ c. refl;
    owned = λ c. refl;
    listed = λ c. refl;
    count = refl;
  }

  field_open :
      (g : Progress) (o : Ref) (n : ℕ) (v : Value) → WellFormed p g.heap → ListedClosed listing g.heap → may_write at_ o || is_listed at_ o ≡ true →
      Storing g.heap o n v → mutable at_.context.me g.heap o ≡ true → Putting p at_.context listing (tested_by listing g) g.heap o (with_field n v (g.heap.get o))
  field_open g o n v wf lists may s m =
      let b = mutable_parts at_.context.me g.heap o m in
      let c = open_not_closed (g.heap.get o).mode b.0 in
      record {
        quiet = written_quiet g.heap o n v wf s (λ e. cc (ap is_open e, b.0));
        part = loose_part (tested_by listing g) o (g.heap.get o) (with_field n v (g.heap.get o)) c c refl (ap is_thread b.1 ∙ thread);
        onward = onward_same o (g.heap.get o) (with_field n v (g.heap.get o)) refl;
        apart = apart_mine p at_.context none_new o (g.heap.get o) (with_field n v (g.heap.get o)) b.1
            (⊎_elim (λ a. a) (λ a. absurd (not_both (closed_in g.heap o) (lists o a s.struct) c)) (or_cases (may_write at_ o) (is_listed at_ o) may)) (λ w th ne k e. ne (sym e ∙ b.1));
      }

  -- what the owner's part allows is no other thread's, nor what may not be written
  pub no_part : (h : Heap) (o : Ref) → WellFormed p h → ListedClosed listing h → may_count at_ h o ≡ true → (w : Ref) → is_thread w ≡ true → Spares at_.context w o → (h.get o).owner ≡ w → ⊥
  no_part h o wf lists e w th sp k = ⊎_elim
      (λ a. let b = and_both (same_ref (h.get o).owner at_.context.me) (may_write at_ o) a in
      ⊎_elim (λ n. n (sym k ∙ same_ref_is (h.get o).owner at_.context.me b.0)) (λ n. not_both (may_write at_ o) b.1 n) sp)
      (λ a. cc (ap is_closed (wf.no_threads w th), lists w (ap (is_listed at_) (sym k) ∙ a) (thread_no_claim w th)))
      (or_cases (same_ref (h.get o).owner at_.context.me && may_write at_ o) (is_listed at_ (h.get o).owner) e)

  approved_kept :
      (h : Heap) (o : Ref) (n : ℕ) (v : Value) → not (is_approved p n) || may_count at_ h o ≡ true →
      ((with_field n v (h.get o)).count ≡ (h.get o).count × KeepsApproved p (h.get o) (with_field n v (h.get o))) ⊎ Between listing (h.get o) (with_field n v (h.get o))
  approved_kept h o n v e = ⊎_elim
      (λ a. inl (refl, record { fields = λ g b. field_other n v (h.get o) g (λ z. not_both (is_approved p g) b (ap (is_approved p) z ∙ not-true (is_approved p n) a)) }))
      (λ a. inr (record { from = owned_free h o a; to = owned_free h o a }))
      (or_cases (not (is_approved p n)) (may_count at_ h o) e)

  owed_listed : (g : Progress) (o : Ref) → is_listed at_ o ≡ true → is_claim o ≡ false → tested_by listing g o ≡ true
  owed_listed g o l c = or_left (is_listed at_ o && not (is_claim o)) (noted g.changed o || noted g.made o) (both_and (is_listed at_ o) (not (is_claim o)) l (ap not c))

  field_listed :
      (g : Progress) (o : Ref) (n : ℕ) (v : Value) → WellFormed p g.heap → ListedClosed listing g.heap → Storing g.heap o n v →
      is_listed at_ o && (is_volatile p n && (not (is_approved p n) || may_count at_ g.heap o)) ≡ true →
      Putting p at_.context listing (tested_by listing g) g.heap o (with_field n v (g.heap.get o))
  field_listed g o n v wf lists s m =
      let a = and_both (is_listed at_ o) (is_volatile p n && (not (is_approved p n) || may_count at_ g.heap o)) m in
      let b = and_both (is_volatile p n) (not (is_approved p n) || may_count at_ g.heap o) a.1 in
      record {
        quiet = written_quiet g.heap o n v wf s (closed_not (g.heap.get o).mode (lists o a.0 s.struct));
        part = record {
          owner = inl refl;
          kept = approved_kept g.heap o n v b.1;
          fixed = λ c d. record {
            fields = λ f e. field_other n v (g.heap.get o) f
                (λ z. not_both (is_volatile p n) b.0 (ap (is_volatile p) (sym z) ∙ e));
            owned = λ e. refl;
            listed = refl;
            shapes = refl;
          };
          change = owed (owed_listed g o a.0 s.struct);
        };
        onward = onward_same o (g.heap.get o) (with_field n v (g.heap.get o)) refl;
        apart = apart_still p at_.context none_new o (g.heap.get o) (with_field n v (g.heap.get o)) refl (lists o a.0 s.struct) (lists o a.0 s.struct) (λ w th sp k. (
          refl,
          record {
            fields = λ f y. ⊎_elim
                (λ z. field_other n v (g.heap.get o) f (λ q. not_both (is_approved p f) y (ap (is_approved p) q ∙ not-true (is_approved p n) z)))
                (λ z. absurd (no_part g.heap o wf lists z w th sp k))
                (or_cases (not (is_approved p n)) (may_count at_ g.heap o) b.1);
          },
        ));
      }

  field_putting :
      (g : Progress) (o : Ref) (n : ℕ) (v : Value) → WellFormed p g.heap → ListedClosed listing g.heap → may_write at_ o || is_listed at_ o ≡ true →
      Storing g.heap o n v → may_store g.heap o n ≡ true → Putting p at_.context listing (tested_by listing g) g.heap o (with_field n v (g.heap.get o))
  field_putting g o n v wf lists may s e = ⊎_elim
      (field_open g o n v wf lists may s)
      (field_listed g o n v wf lists s)
      (or_cases (mutable at_.context.me g.heap o) (is_listed at_ o && (is_volatile p n && (not (is_approved p n) || may_count at_ g.heap o))) e)

  local_fine :
      (g : Progress) (i : ℕ) (vs : Values) (v : Value) → Env p f g.heap g.locals → PlaceOk (InLocal i) vs → is_of p vs v ≡ true →
      Fine p f at_.context listing g (record g { locals = slice_set g.locals i v })
  local_fine g i vs v env ok k = record {
    ready = record { heap = env.heap; types = env.types; locals = typed_set f.variables.items g.locals i ok.0 v env.locals ok.1 (to_type p vs ok.0.ty v ok.2 k) };
    parts = λ o. same_part p listing (tested_by listing g) o (g.heap.get o);
    onward = λ o. onward_same o (g.heap.get o) (g.heap.get o) refl;
    apart = λ o. apart_same p at_.context none_new o (g.heap.get o);
    grows = λ o e. e;
    started = refl;
  }

  storing : (h : Heap) (o : Ref) (n : ℕ) (vs : Values) (v : Value) → PlaceOk (InField o n) vs → is_of p vs v ≡ true → is_null o ≡ false → Storing h o n v
  storing h o n vs v ok k nn =
      let e : o.ty == ok.0.of ≡ true = ⊎_elim (λ z. absurd (not_both (is_null o) z nn)) (λ z. z) ok.2 in
      let ty : type_of_field p n ≡ ok.0.ty = ap field_type ok.1 in
      let t = to_type p vs ok.0.ty v ok.3 k in
      let q = eqb-true o.ty ok.0.of e in
      record {
        of_it = ap (λ x. belongs x o.ty) ok.1 ∙ eq-eqb ok.0.of o.ty (sym q);
        fits_it = subst (λ z. in_type z v ≡ true) (sym ty) t;
        value = value_of_type p ok.0.ty v (typed.field_types n ok.0 ok.1) t;
        struct = ap (λ m. m == 2) q ∙ (struct_type p ok.0.of (typed.field_structs n ok.0 ok.1)).2;
      }

  null_may_not : (h : Heap) (o : Ref) (n : ℕ) → WellFormed p h → ListedClosed listing h → may_store h o n ≡ true → is_null o ≡ false
  null_may_not h o n wf lists e = false_from_ne_true (is_null o) (λ z.
      let w : o ≡ null = null_is o z in
      let m : (h.get o).mode ≡ Absent = ap (λ (x : Ref). (h.get x).mode) w ∙ wf.no_null in
      ⊎_elim
      (λ a. cc (ap is_open m, (mutable_parts at_.context.me h o a).0))
      (λ a. cc (ap is_closed m, lists o (and_both (is_listed at_ o) (is_volatile p n && (not (is_approved p n) || may_count at_ h o)) a).0 (ap is_claim w)))
      (or_cases (mutable at_.context.me h o) (is_listed at_ o && (is_volatile p n && (not (is_approved p n) || may_count at_ h o))) e))

  pub store_fine :
      (place : Place) (vs : Values) (v : Value) (n : ℕ) (g : Progress) → Env p f g.heap g.locals → ListedClosed listing g.heap → PlaceOk place vs → is_of p vs v ≡ true →
      OnGave (store p at_ place v n g) (Fine p f at_.context listing g)
  store_fine (InLocal i) vs v n g env lists ok k = local_fine g i vs v env ok k
  store_fine (InField o x) vs v n g env lists ok k =
      check_gave at_ (may_store g.heap o x) n Write (check at_ (may_write at_ o || is_listed at_ o) (n + 1) Writes (Gives (heap_of g (write g.heap o x v)))) (Fine p f at_.context listing g) (λ e.
      check_gave at_ (may_write at_ o || is_listed at_ o) (n + 1) Writes (Gives (heap_of g (write g.heap o x v))) (Fine p f at_.context listing g) (λ w.
      putting_fine p f at_.context listing g o (with_field x v (g.heap.get o)) env
      (field_putting g o x v env.heap lists w (storing g.heap o x vs v ok k (null_may_not g.heap o x env.heap lists e)) e)))

  -- Owned sets changed outside.

  pub open_owned :
      (g : Progress) (o : Ref) (owned : List Ref) → WellFormed p g.heap → is_ordered ref_lt owned ≡ true → every is_reference owned ≡ true →
      mutable at_.context.me g.heap o ≡ true → may_write at_ o ≡ true →
      Putting p at_.context listing (tested_by listing g) g.heap o (record (g.heap.get o) { owned = owned })
  open_owned g o owned wf ord are m may =
      let b = mutable_parts at_.context.me g.heap o m in
      let c = open_not_closed (g.heap.get o).mode b.0 in
      let was : (g.heap.get o).mode ≡ Absent → ⊥ = λ e. cc (ap is_open e, b.0) in
      record {
        quiet = record {
          pivot = shifted p o (g.heap.get o) (g.heap.get o).mode (g.heap.get o).owner owned (record_of p g.heap wf o) was
              (record { no_claim = inr c; there = was; opened = wf.opened o; freed = wf.freed o; owner_is = wf.heap_of.owners o }) ord are;
          closed = refl;
          owner = λ d. refl;
          owned = λ d. absurd (not_both (closed_in g.heap o) d c);
          listed = λ d. refl;
          count = refl;
        };
        part = loose_part (tested_by listing g) o (g.heap.get o) (record (g.heap.get o) { owned = owned }) c c refl (ap is_thread b.1 ∙ thread);
        onward = onward_same o (g.heap.get o) (record (g.heap.get o) { owned = owned }) refl;
        apart = apart_mine p at_.context none_new o (g.heap.get o) (record (g.heap.get o) { owned = owned }) b.1 may (λ w th ne k e. ne (sym e ∙ b.1));
      }

  -- Objects that join a listed object's owned set, or leave it.

  module _ (g : Progress) (o : Ref) (owned s : List Ref) (n : Ref) (wf : WellFormed p g.heap) (l : is_listed at_ o ≡ true) (no_claim : is_claim o ≡ false) (vol : has_volatile_owns p o.ty ≡ true)
      (froms : (x : Ref) → is_in x s ≡ true → is_free listing (g.heap.get x).owner ≡ true) (to : is_free listing n ≡ true)
      (co : closed_in g.heap o ≡ true) (hands : (x : Ref) → is_in x s ≡ true → (k : Record) → k.owner ≡ n → Apart p at_.context none_new x (g.heap.get x) k) where
    abbrev pub regrouped : Record
    regrouped = record (g.heap.get o) { owned = owned }

    abbrev PartOf : Ref → Record → Type 0
    PartOf x r = Part p listing (tested_by listing g) x (g.heap.get x) r

    pivot_fixed : FixedRecord p o (g.heap.get o) regrouped
    pivot_fixed = record { fields = λ f e. refl; owned = λ e. absurd (not_both (has_volatile_owns p o.ty) vol e); listed = refl; shapes = refl }

    handed_parts : (x : Ref) → is_in x s ≡ true → PartOf x (record ((put g.heap o regrouped).get x) { owner = n })
    handed_parts = at_put (λ x r. is_in x s ≡ true → PartOf x (record r { owner = n })) g.heap o regrouped
        (λ i. record {
          owner = inr (record { from = froms o i; to = to });
          kept = inl
              (refl, record { fields = λ f a. refl });
          fixed = λ c d. record {
            fields = λ f e. refl;
            owned = λ e. absurd (not_both (has_volatile_owns p o.ty) vol e);
            listed = refl;
            shapes = refl;
          };
          change = owed (owed_listed g o l no_claim);
        })
        (λ x d i. record {
          owner = inr (record { from = froms x i; to = to });
          kept = inl
              (refl, record { fields = λ f a. refl });
          fixed = λ c e. record { fields = λ f e. refl; owned = λ e. refl; listed = refl; shapes = refl };
          change = same
              (record { count = refl; owned = refl; fields = λ f. refl; listed = refl; shapes = refl; closed = refl });
        })

    other_parts : (x : Ref) → PartOf x ((put g.heap o regrouped).get x)
    other_parts = at_put PartOf g.heap o regrouped
        (record { owner = inl refl; kept = inl (refl, record { fields = λ f a. refl }); fixed = λ c d. pivot_fixed; change = owed (owed_listed g o l no_claim) })
        (λ x d. same_part p listing (tested_by listing g) x (g.heap.get x))

    modes : (x : Ref) → ((moved_on g.heap o regrouped s n).get x).mode ≡ (g.heap.get x).mode
    modes = at_hand (λ x r. r.mode ≡ (g.heap.get x).mode) (put g.heap o regrouped) s n
        (λ x i. at_put (λ y r. r.mode ≡ (g.heap.get y).mode) g.heap o regrouped refl (λ y d. refl) x)
        (λ x i. at_put (λ y r. r.mode ≡ (g.heap.get y).mode) g.heap o regrouped refl (λ y d. refl) x)

    pub regrouped_fine : Env p f g.heap g.locals → Transfer p g.heap o regrouped s n → Fine p f at_.context listing g (heap_of g (moved_on g.heap o regrouped s n))
    regrouped_fine env t = record {
      ready = record { heap = transferred p g.heap o regrouped s n wf t; types = env.types; locals = env.locals };
      parts = at_hand PartOf (put g.heap o regrouped) s n handed_parts (λ x i. other_parts x);
      onward = λ x. onward_same x (g.heap.get x) ((moved_on g.heap o regrouped s n).get x) (modes x);
      apart = at_hand (λ x k. Apart p at_.context none_new x (g.heap.get x) k) (put g.heap o regrouped) s n
          (λ x i. hands x i (record ((put g.heap o regrouped).get x) { owner = n }) refl)
          (λ x i. at_put (λ y k. Apart p at_.context none_new y (g.heap.get y) k) g.heap o regrouped
          (apart_still p at_.context none_new o (g.heap.get o) regrouped refl co co (λ w th sp e. (refl, record { fields = λ f a. refl })))
          (λ y d. apart_same p at_.context none_new y (g.heap.get y)) x);
      grows = λ x e. e;
      started = refl;
    }

    pub regrouped_record : is_ordered ref_lt owned ≡ true → every is_reference owned ≡ true → IsRecord p o regrouped
    regrouped_record ord are = shifted p o (g.heap.get o) (g.heap.get o).mode (g.heap.get o).owner owned (record_of p g.heap wf o) (closed_not (g.heap.get o).mode co)
        (record { no_claim = inl no_claim; there = closed_not (g.heap.get o).mode co; opened = wf.opened o; freed = wf.freed o; owner_is = wf.heap_of.owners o }) ord are

    pub put_closed_too : (x : Ref) → closed_in g.heap x ≡ true → closed_in (put g.heap o regrouped) x ≡ true
    put_closed_too x d = at_put (λ y r. closed_in g.heap y ≡ true → is_closed r.mode ≡ true) g.heap o regrouped (λ e. e) (λ y n e. e) x d
