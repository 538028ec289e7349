-- A well-formed heap is one whose records are each well-formed, with ownership and claims that fit.
use Rattle.std.proofs.Common.{◌≡◌, ℕ, Bool, true, false, cond, not, ◌&&◌, ◌||◌, ◌==◌, ◌⊎◌, ⊎_elim, refl, sym, ap, ◌∙◌, subst, ℤ, pos, List, [], Option, Some, None, slice_get}
use Rattle.std.proofs.lemmas.Bool.{eqb-true}
use Rattle.object_types.specs.declared.references.Ref.{Ref}
use Rattle.object_types.specs.declared.values.Value.{Value}
use Rattle.object_types.specs.declared.values.Value.TheVariants.{Int, Ref as Refers}
use Rattle.object_types.specs.declared.records.Mode.{Mode}
use Rattle.object_types.specs.declared.records.Mode.TheVariants.{Absent, Open, Freed}
use Rattle.method.specs.declared.program.DeclaredType.{DeclaredType}
use Rattle.method.specs.declared.program.DeclaredType.TheVariants.{Integer, Pointer, Object, Claim}
use Rattle.method.specs.declared.program.Program.{Program}
use Rattle.object_types.specs.References.{null, ref_lt, is_null, is_reference, is_thread, is_claim}
use Rattle.object_types.specs.Values.{or_zero, kept, is_zero}
use Rattle.object_types.specs.Sets.{every, is_in, is_ordered}
use Rattle.object_types.specs.Shapes.{entry_lt}
use Rattle.object_types.specs.Heap.{Heap, Record, nothing, IsFinite, is_closed, closed_in, with_field}
use Rattle.method.specs.Tables.{in_type, type_of_field, zero_of, is_field_of, is_struct, is_claimable, sort_of_type}
use Rattle.method.specs.WellFormed.{IsHeapOf, is_value, is_entry, IsCount, IsMade, WellFormed, claims_now, has_sort}
use Rattle.method.specs.Typing.{is_type}
use Rattle.method.proofs.Empty.{zero_in_type}
use Rattle.method.proofs.Global.{and_both, test_cases, same_ref_self}
use Rattle.machine_laws.proofs.Typed.{not_both, or_cases, true_from_ne_false, null_is, struct_type}
use Rattle.machine_laws.proofs.Heaps.{false_from_ne_true, closed_not, closed_not_open, closed_not_freed}

-- the record may stand at o
pub record IsRecord (p : Program) (o : Ref) (r : Record) : Type 0 where
  pub owned_ordered : is_ordered ref_lt r.owned ≡ true
  pub listed_ordered : is_ordered ref_lt r.listed ≡ true
  pub shapes_ordered : is_ordered entry_lt r.shapes ≡ true
  pub entries : every (λ e. is_entry (slice_get p.shapes.items e.shape) e.values) r.shapes ≡ true
  pub own_fields : (f : ℕ) → is_field_of p f o.ty ≡ false → r.fields f ≡ None
  pub kept_fields : (f : ℕ) (v : Value) → r.fields f ≡ Some v → kept v ≡ Some v
  pub nowhere_else : is_reference o ≡ false → r ≡ nothing
  pub owner_is : is_reference r.owner ≡ true
  pub owned_are : every is_reference r.owned ≡ true
  pub listed_are : every is_reference r.listed ≡ true
  pub values_are : (f : ℕ) (v : Value) → r.fields f ≡ Some v → has_sort (sort_of_type (type_of_field p f)) v ≡ true
  pub claims_list : is_claim o ≡ false → (r.listed ≡ []) × (r.shapes ≡ [])
  pub fields : (f : ℕ) → is_field_of p f o.ty ≡ true → in_type (type_of_field p f) (or_zero (zero_of (type_of_field p f)) (r.fields f)) ≡ true
  pub no_null : is_null o ≡ true → r.mode ≡ Absent
  pub no_threads : is_thread o ≡ true → r.mode ≡ Absent
  pub absent : r.mode ≡ Absent → r ≡ nothing
  pub opened : r.mode ≡ Open → (is_thread r.owner ≡ true) × (r.count ≡ pos 0)
  pub freed : r.mode ≡ Freed → (r.owner ≡ null) × (r.count ≡ pos 0)
  pub made : is_claim o ≡ true → is_closed r.mode ≡ true → IsMade p r

pub record Links (h : Heap) : Type 0 where
  pub owner : (o : Ref) → closed_in h o ≡ true → is_thread (h.get o).owner || (closed_in h (h.get o).owner && is_in o (h.get (h.get o).owner).owned) ≡ true
  pub member : (o q : Ref) → closed_in h o ≡ true → is_in q (h.get o).owned ≡ true → (closed_in h q ≡ true) × ((h.get q).owner ≡ o)

pub record Claims (p : Program) (h : Heap) : Type 0 where
  pub count : (o : Ref) → (n : ℕ) × ((h.get o).count ≡ pos n) × IsCount (claims_now h o) n
  pub listed : (c o : Ref) → claims_now h o c ≡ true → (closed_in h o ≡ true) × (is_claimable p o.ty ≡ true)

pub record_of : (p : Program) (h : Heap) → WellFormed p h → (o : Ref) → IsRecord p o (h.get o)
record_of p h wf o = record {
  owned_ordered = wf.heap_of.owned_ordered o;
  listed_ordered = wf.heap_of.listed_ordered o;
  shapes_ordered = wf.heap_of.shapes_ordered o;
  entries = wf.heap_of.entries o;
  own_fields = wf.heap_of.own_fields o;
  kept_fields = wf.heap_of.kept_fields o;
  nowhere_else = wf.heap_of.nowhere_else o;
  owner_is = wf.heap_of.owners o;
  owned_are = wf.heap_of.owned_are o;
  listed_are = wf.heap_of.listed_are o;
  values_are = wf.heap_of.values_are o;
  claims_list = wf.heap_of.claims_list o;
  fields = wf.fields o;
  no_null = λ e. ap (λ (x : Ref). (h.get x).mode) (null_is o e) ∙ wf.no_null;
  no_threads = wf.no_threads o;
  absent = wf.absent o;
  opened = wf.opened o;
  freed = wf.freed o;
  made = wf.made o;
}

pub links_of : (p : Program) (h : Heap) → WellFormed p h → Links h
links_of p h wf = record { owner = wf.owner; member = wf.member }

pub claims_of : (p : Program) (h : Heap) → WellFormed p h → Claims p h
claims_of p h wf = record { count = wf.count; listed = wf.listed }

pub heap_of_records : (p : Program) (h : Heap) → IsFinite h → ((o : Ref) → IsRecord p o (h.get o)) → IsHeapOf p h
heap_of_records p h finite each = record {
  finite = finite;
  owned_ordered = λ o. (each o).owned_ordered;
  listed_ordered = λ o. (each o).listed_ordered;
  shapes_ordered = λ o. (each o).shapes_ordered;
  entries = λ o. (each o).entries;
  own_fields = λ o. (each o).own_fields;
  kept_fields = λ o. (each o).kept_fields;
  nowhere_else = λ o. (each o).nowhere_else;
  owners = λ o. (each o).owner_is;
  owned_are = λ o. (each o).owned_are;
  listed_are = λ o. (each o).listed_are;
  values_are = λ o. (each o).values_are;
  claims_list = λ o. (each o).claims_list;
}

pub well_formed_of : (p : Program) (h : Heap) → IsFinite h → ((o : Ref) → IsRecord p o (h.get o)) → Links h → Claims p h → WellFormed p h
well_formed_of p h finite each links claims = record {
  heap_of = heap_of_records p h finite each;
  fields = λ o. (each o).fields;
  no_null = (each null).no_null (same_ref_self null);
  no_threads = λ o. (each o).no_threads;
  absent = λ o. (each o).absent;
  opened = λ o. (each o).opened;
  freed = λ o. (each o).freed;
  owner = links.owner;
  member = links.member;
  count = claims.count;
  listed = claims.listed;
  made = λ o. (each o).made;
}

-- what is there is at a reference other than NULL that is no thread
pub record IsThere (o : Ref) : Type 0 where
  pub reference : is_reference o ≡ true
  pub no_null : is_null o ≡ false
  pub no_thread : is_thread o ≡ false

pub there : (p : Program) (o : Ref) (r : Record) → IsRecord p o r → (r.mode ≡ Absent → ⊥) → IsThere o
there p o r k n = record {
  reference = true_from_ne_false (is_reference o) (λ e. n (ap (λ (x : Record). x.mode) (k.nowhere_else e)));
  no_null = false_from_ne_true (is_null o) (λ e. n (k.no_null e));
  no_thread = false_from_ne_true (is_thread o) (λ e. n (k.no_threads e));
}

pub no_thread_closed : (p : Program) (h : Heap) → WellFormed p h → (o : Ref) → is_thread o ≡ true → closed_in h o ≡ true → ⊥
no_thread_closed p h wf o t c = cc (ap is_closed (wf.no_threads o t), c)

-- Changes of one record.

pub with_owner : (p : Program) (o : Ref) (r : Record) (n : Ref) → IsRecord p o r → is_closed r.mode ≡ true → is_reference n ≡ true → IsRecord p o (record r { owner = n })
with_owner p o r n k c e = record {
  owned_ordered = k.owned_ordered;
  listed_ordered = k.listed_ordered;
  shapes_ordered = k.shapes_ordered;
  entries = k.entries;
  own_fields = k.own_fields;
  kept_fields = k.kept_fields;
  nowhere_else = λ f. absurd (closed_not r.mode c (ap (λ (x : Record). x.mode) (k.nowhere_else f)));
  owner_is = e;
  owned_are = k.owned_are;
  listed_are = k.listed_are;
  values_are = k.values_are;
  claims_list = k.claims_list;
  fields = k.fields;
  no_null = k.no_null;
  no_threads = k.no_threads;
  absent = λ f. absurd (closed_not r.mode c f);
  opened = λ f. absurd (closed_not_open r.mode c f);
  freed = λ f. absurd (closed_not_freed r.mode c f);
  made = λ a b. let m = k.made a b in record {
    number = m.number;
    site = m.site;
    me = m.me;
    locals = m.locals;
    objects = m.objects;
    is = m.is;
    values = m.values;
    count = m.count;
    owned = m.owned;
    listed = m.listed;
    shapes = m.shapes;
  };
}

pub with_count : (p : Program) (o : Ref) (r : Record) (z : ℤ) → IsRecord p o r → is_closed r.mode ≡ true → is_claim o ≡ false → IsRecord p o (record r { count = z })
with_count p o r z k c e = record {
  owned_ordered = k.owned_ordered;
  listed_ordered = k.listed_ordered;
  shapes_ordered = k.shapes_ordered;
  entries = k.entries;
  own_fields = k.own_fields;
  kept_fields = k.kept_fields;
  nowhere_else = λ f. absurd (closed_not r.mode c (ap (λ (x : Record). x.mode) (k.nowhere_else f)));
  owner_is = k.owner_is;
  owned_are = k.owned_are;
  listed_are = k.listed_are;
  values_are = k.values_are;
  claims_list = k.claims_list;
  fields = k.fields;
  no_null = k.no_null;
  no_threads = k.no_threads;
  absent = λ f. absurd (closed_not r.mode c f);
  opened = λ f. absurd (closed_not_open r.mode c f);
  freed = λ f. absurd (closed_not_freed r.mode c f);
  made = λ a b. absurd (not_both (is_claim o) a e);
}

-- the record that is open, closed or freed, of what isn't a claim, or is no longer one
pub record IsShift (o : Ref) (m : Mode) (n : Ref) (r : Record) : Type 0 where
  pub no_claim : (is_claim o ≡ false) ⊎ (is_closed m ≡ false)
  pub there : m ≡ Absent → ⊥
  pub opened : m ≡ Open → (is_thread n ≡ true) × (r.count ≡ pos 0)
  pub freed : m ≡ Freed → (n ≡ null) × (r.count ≡ pos 0)
  pub owner_is : is_reference n ≡ true

pub shifted :
    (p : Program) (o : Ref) (r : Record) (m : Mode) (n : Ref) (owned : List Ref) → IsRecord p o r → (r.mode ≡ Absent → ⊥) → IsShift o m n r →
    is_ordered ref_lt owned ≡ true → every is_reference owned ≡ true → IsRecord p o (record r { mode = m; owner = n; owned = owned })
shifted p o r m n owned k was s ordered are =
    let t = there p o r k was in
    record {
      owned_ordered = ordered;
      listed_ordered = k.listed_ordered;
      shapes_ordered = k.shapes_ordered;
      entries = k.entries;
      own_fields = k.own_fields;
      kept_fields = k.kept_fields;
      nowhere_else = λ f. absurd (not_both (is_reference o) t.reference f);
      owner_is = s.owner_is;
      owned_are = are;
      listed_are = k.listed_are;
      values_are = k.values_are;
      claims_list = k.claims_list;
      fields = k.fields;
      no_null = λ f. absurd (not_both (is_null o) f t.no_null);
      no_threads = λ f. absurd (not_both (is_thread o) f t.no_thread);
      absent = λ f. absurd (s.there f);
      opened = s.opened;
      freed = s.freed;
      made = λ a b. ⊎_elim (λ f. absurd (not_both (is_claim o) a f)) (λ f. absurd (not_both (is_closed m) b f)) s.no_claim;
    }

-- A field written.

pub field_at : (f : ℕ) (v : Value) (r : Record) (g : ℕ) (Q : Option Value → Type 0) → (g ≡ f → Q (kept v)) → (g == f ≡ false → Q (r.fields g)) → Q ((with_field f v r).fields g)
field_at f v r g Q here other = ⊎_elim
    (λ e. subst Q (sym (ap (λ b. cond b (kept v) (r.fields g)) e)) (here (eqb-true g f e)))
    (λ e. subst Q (sym (ap (λ b. cond b (kept v) (r.fields g)) e)) (other e))
    (test_cases (g == f))

pub field_other : (f : ℕ) (v : Value) (r : Record) (g : ℕ) → (g ≡ f → ⊥) → (with_field f v r).fields g ≡ r.fields g
field_other f v r g n = field_at f v r g (λ x. x ≡ r.fields g) (λ e. absurd (n e)) (λ e. refl)

pub kept_some : (v w : Value) → kept v ≡ Some w → v ≡ w
kept_some v w e = by (is_zero v) e
  where
    by : (b : Bool) → cond b None (Some v) ≡ Some w → v ≡ w
    by true e = absurd (cc)
    by false e = cc

pub kept_typed : (ty : DeclaredType) (v : Value) → in_type ty v ≡ true → in_type ty (or_zero (zero_of ty) (kept v)) ≡ true
kept_typed ty v h = by (is_zero v)
  where
    by : (b : Bool) → in_type ty (or_zero (zero_of ty) (cond b None (Some v))) ≡ true
    by true = zero_in_type ty
    by false = h

pub kept_again : (v w : Value) → kept v ≡ Some w → kept w ≡ Some w
kept_again v w e = subst (λ (x : Value). kept x ≡ Some w) (kept_some v w e) e

pub struct_reference : (p : Program) (n : ℕ) (r : Ref) → is_struct p n ≡ true → r.ty == n ≡ true → is_reference r ≡ true
struct_reference p n r s e = ap (λ m. not (m == 0) || (r.serial == 0)) (eqb-true r.ty n e) ∙ ap (λ b. not b || (r.serial == 0)) (struct_type p n s).0

pub value_of_type : (p : Program) (ty : DeclaredType) (v : Value) → is_type p ty ≡ true → in_type ty v ≡ true → is_value v ≡ true
unfolding in_type
value_of_type p ty (Int z) t h = refl
value_of_type p (Integer c) (Refers r) t h = absurd (cc)
value_of_type p (Pointer n) (Refers r) t h = ⊎_elim (λ e. subst (λ (x : Ref). is_reference x ≡ true) (sym (null_is r e)) refl) (λ e. struct_reference p n r t e) (or_cases (is_null r) (r.ty == n) h)
value_of_type p Object (Refers r) t h = (and_both (is_reference r) (not (is_thread r)) h).0
value_of_type p Claim (Refers r) t h = ⊎_elim (λ e. subst (λ (x : Ref). is_reference x ≡ true) (sym (null_is r e)) refl)
    (λ e. ap (λ m. not (m == 0) || (r.serial == 0)) (eqb-true r.ty 2 e)) (or_cases (is_null r) (is_claim r) h)

-- a value of the type is of its sort
pub typed_sorted : (ty : DeclaredType) (v : Value) → in_type ty v ≡ true → is_value v ≡ true → has_sort (sort_of_type ty) v ≡ true
unfolding in_type
typed_sorted (Integer c) (Int z) h i = refl
typed_sorted (Integer c) (Refers r) h i = absurd (cc)
typed_sorted (Pointer n) (Int z) h i = absurd (cc)
typed_sorted (Pointer n) (Refers r) h i = i
typed_sorted Object (Int z) h i = absurd (cc)
typed_sorted Object (Refers r) h i = i
typed_sorted Claim (Int z) h i = absurd (cc)
typed_sorted Claim (Refers r) h i = i

pub written :
    (p : Program) (o : Ref) (r : Record) (f : ℕ) (v : Value) → IsRecord p o r → (r.mode ≡ Absent → ⊥) → is_field_of p f o.ty ≡ true →
    in_type (type_of_field p f) v ≡ true → is_value v ≡ true → IsRecord p o (with_field f v r)
written p o r f v k was of_o typed is_v =
    let t = there p o r k was in
    record {
      owned_ordered = k.owned_ordered;
      listed_ordered = k.listed_ordered;
      shapes_ordered = k.shapes_ordered;
      entries = k.entries;
      own_fields = λ g e. field_at f v r g (λ x. x ≡ None) (λ s. absurd (not_both (is_field_of p f o.ty) of_o (ap (λ m. is_field_of p m o.ty) (sym s) ∙ e))) (λ n. k.own_fields g e);
      kept_fields = λ g w. field_at f v r g (λ x. x ≡ Some w → kept w ≡ Some w) (λ s e. kept_again v w e) (λ n. k.kept_fields g w);
      nowhere_else = λ e. absurd (not_both (is_reference o) t.reference e);
      owner_is = k.owner_is;
      owned_are = k.owned_are;
      listed_are = k.listed_are;
      values_are = λ g w. field_at f v r g (λ x. x ≡ Some w → has_sort (sort_of_type (type_of_field p g)) w ≡ true)
          (λ s e. subst (λ (m : ℕ). has_sort (sort_of_type (type_of_field p m)) w ≡ true) (sym s)
          (subst (λ (x : Value). has_sort (sort_of_type (type_of_field p f)) x ≡ true) (kept_some v w e) (typed_sorted (type_of_field p f) v typed is_v))) (λ n. k.values_are g w);
      claims_list = k.claims_list;
      fields = λ g e. field_at f v r g (λ x. in_type (type_of_field p g) (or_zero (zero_of (type_of_field p g)) x) ≡ true)
          (λ s. subst (λ m. in_type (type_of_field p m) (or_zero (zero_of (type_of_field p m)) (kept v)) ≡ true) (sym s) (kept_typed (type_of_field p f) v typed)) (λ n. k.fields g e);
      no_null = k.no_null;
      no_threads = k.no_threads;
      absent = λ e. absurd (was e);
      opened = k.opened;
      freed = k.freed;
      made = λ a b. let m = k.made a b in record {
        number = m.number;
        site = m.site;
        me = m.me;
        locals = m.locals;
        objects = m.objects;
        is = m.is;
        values = m.values;
        count = m.count;
        owned = m.owned;
        listed = m.listed;
        shapes = m.shapes;
      };
    }
