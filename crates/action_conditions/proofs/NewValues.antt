-- New constants for values of their types, and the contents of a new object.
use Rattle.std.proofs.Common.{◌≡◌, ℕ, zero, suc, ◌+◌, ◌<◌, ◌==◌, Bool, true, not, ◌&&◌, ◌||◌, List, [], ◌∷◌, length, Some, slice_get, pos, refl, ap, sym, ◌∙◌, subst, arith}
use Rattle.object_types.specs.declared.references.Ref.{Ref}
use Rattle.object_types.specs.declared.values.Value.{Value}
use Rattle.object_types.specs.declared.values.Value.TheVariants.{Int, Ref as Refers}
use Rattle.object_types.specs.References.{null, is_null, is_thread, is_reference}
use Rattle.int_ranges.specs.Ranges.{least_of, greatest_of}
use Rattle.method.specs.declared.program.DeclaredType.{DeclaredType}
use Rattle.method.specs.declared.program.DeclaredType.TheVariants.{Integer, Pointer, Object, Claim}
use Rattle.method.specs.declared.program.FieldInfo.{FieldInfo}
use Rattle.method.specs.declared.program.Program.{Program}
use Rattle.method.specs.Tables.{in_type, type_of_field, field_type, zero_of}
use Rattle.method.specs.Typing.{is_type}
use Rattle.method.specs.Actions.{fields_fit}
use Rattle.method.proofs.Global.{and_both}
use Rattle.method.proofs.Empty.{zero_in_type}
use Rattle.machine_laws.proofs.Records.{value_of_type, typed_sorted}
use Rattle.terms.specs.Formula.{Formula}
use Rattle.term_meaning.specs.Columns.{Field}
use Rattle.term_meaning.specs.RawHeaps.{RawHeap, FieldAt, store_at}
use Rattle.term_meaning.specs.Meaning.{Language, HeapValue}
use Rattle.axiom_instances.proofs.Kit as kit
use Rattle.axiom_instances.proofs.Kit.{none, one, node_has}
use Rattle.axiom_instances.proofs.Maps.{set_has}
use Rattle.conditions.specs.Formulas.{nat, null as null_term, eq, le, not', or', typ, set, field_column, integer, reference}
use Rattle.conditions.specs.Formulas as fs
use Rattle.conditions.specs.Symbolic.{Symbolic, term, ranges}
use Rattle.conditions.specs.Paths.{Path, Done, Execution, sequence, facts}
use Rattle.conditions.specs.Code.{Spot, State, ValueAndState, new_value}
use Rattle.conditions.specs.Actions.{ValuesAndState, contents, with_fields}
use Rattle.conditions.specs.Ways.{AllHold}
use Rattle.conditions.proofs.Ways.{facts_both}
use Rattle.conditions.proofs.FromRuns.{count_of}
use Rattle.condition_meaning.proofs.Environments.{Environment, Has, Is, Holds, holds_is, is_not, is_or, is_eq, is_le, has_int, has_null}
use Rattle.condition_meaning.proofs.Extensions.{Extension, an_integer, is_integer, a_reference, is_refers}
use Rattle.action_conditions.proofs.Words.{is_so, field_column_at}
use Rattle.action_conditions.proofs.Places.{Tabled, Stands, AllStand, stands_term}
use Rattle.action_conditions.proofs.Columns.{filled_raw, AllSorted}
use Rattle.conditions.proofs.FromRuns as runs
use Rattle.action_conditions.proofs.Goes.{no_extension, both_extensions, same_count}

module _ (l : Language) (t : Ref) where
  -- all these formulas hold
  abbrev pub All : Environment l t → List Formula → Type 0
  All e = AllHold (Environment l t) (Holds l t) e

  true_holds : (e : Environment l t) (y : Formula) (b : Bool) → Is l t e y b → b ≡ true → Holds l t e y
  true_holds e y b i h = holds_is l t e y (is_so l t e y b true h i)

  has_type : (e : Environment l t) (y : Formula) (r : Ref) → Has l t e y (Refers r) → Has l t e (typ y) (Int (pos r.ty))
  has_type e y r hy = node_has (one hy) refl

  pub is_typed : (e : Environment l t) (y : Formula) (r : Ref) (n : ℕ) → Has l t e y (Refers r) → Is l t e (eq (typ y) (nat n)) (r.ty == n)
  is_typed e y r n hy = is_eq l t e (typ y) (nat n) (Int (pos r.ty)) (Int (pos n)) (has_type e y r hy) (has_int l t e (pos n))

  pub is_null_now : (e : Environment l t) (y : Formula) (r : Ref) → Has l t e y (Refers r) → Is l t e (eq y null_term) (is_null r)
  is_null_now e y r hy = is_eq l t e y null_term (Refers r) (Refers null) hy (has_null l t e)

  -- a value of the type is in its ranges
  pub ranges_hold : (e : Environment l t) (ty : DeclaredType) (y : Formula) (v : Value) → in_type ty v ≡ true → Has l t e y v → All e (ranges ty y)
  unfolding in_type
  ranges_hold e (Integer c) y (Int z) h hy =
      let b = and_both _ _ h in (
        true_holds e (le (fs.int (least_of c)) y) _ (is_le l t e (fs.int (least_of c)) y (Int (least_of c)) (Int z) (has_int l t e (least_of c)) hy) b.0,
        (true_holds e (le y (fs.int (greatest_of c))) _ (is_le l t e y (fs.int (greatest_of c)) (Int z) (Int (greatest_of c)) hy (has_int l t e (greatest_of c))) b.1, tt),
      )
  ranges_hold e (Integer c) y (Refers r) h hy = absurd (cc)
  ranges_hold e (Pointer n) y (Int z) h hy = absurd (cc)
  ranges_hold e (Pointer n) y (Refers r) h hy = (true_holds e (or' (eq y null_term) (eq (typ y) (nat n))) (is_null r || (r.ty == n)) (is_or l t e (eq y null_term) (eq (typ y) (nat n)) (is_null r) (r.ty == n) (is_null_now e y r hy) (is_typed e y r n hy)) h, tt)
  ranges_hold e Object y (Int z) h hy = absurd (cc)
  ranges_hold e Object y (Refers r) h hy = (true_holds e (not' (eq (typ y) (nat 1))) (not (r.ty == 1)) (is_not l t e (eq (typ y) (nat 1)) (r.ty == 1) (is_typed e y r 1 hy)) (and_both (is_reference r) (not (is_thread r)) h).1, tt)
  ranges_hold e Claim y (Int z) h hy = absurd (cc)
  ranges_hold e Claim y (Refers r) h hy = (true_holds e (or' (eq y null_term) (eq (typ y) (nat 2))) (is_null r || (r.ty == 2)) (is_or l t e (eq y null_term) (eq (typ y) (nat 2)) (is_null r) (r.ty == 2) (is_null_now e y r hy) (is_typed e y r 2 hy)) h, tt)

  -- A new constant can be any value of its type.
  pub record NewIs (st : State) (q : Execution ValueAndState) (v : Value) : Type 1 where
    pub extension : Extension l t (count_of st) (count_of q.gives.state)
    pub goes : (e : Environment l t) → extension.So e → All e (facts q.path) × Stands l t e q.gives.value v
    pub heap : q.gives.state.heap ≡ st.heap
    pub locals : q.gives.state.locals ≡ st.locals

  named : (p : Program) (ty : DeclaredType) (r : Ref) → is_type p ty ≡ true → in_type ty (Refers r) ≡ true → is_reference r ≡ true
  named p ty r k h = value_of_type p ty (Refers r) k h

  pub new_is : (p : Program) (ty : DeclaredType) (st : State) (v : Value) → is_type p ty ≡ true → in_type ty v ≡ true → NewIs st (new_value ty st) v
  unfolding in_type
  new_is p (Integer c) st (Int z) k h = record {
    extension = an_integer l t (count_of st) z;
    goes = λ e so. let i = is_integer l t (count_of st) z e so in (ranges_hold e (Integer c) (integer st.integers) (Int z) h i, (z, i, refl));
    heap = refl;
    locals = refl;
  }
  new_is p (Integer c) st (Refers r) k h = absurd (cc)
  new_is p (Pointer n) st (Int z) k h = absurd (cc)
  new_is p (Pointer n) st (Refers r) k h = record {
    extension = a_reference l t (count_of st) r (named p (Pointer n) r k h);
    goes = λ e so. let i = is_refers l t (count_of st) r (named p (Pointer n) r k h) e so in (ranges_hold e (Pointer n) (reference st.references) (Refers r) h i, (r, i, refl));
    heap = refl;
    locals = refl;
  }
  new_is p Object st (Int z) k h = absurd (cc)
  new_is p Object st (Refers r) k h = record {
    extension = a_reference l t (count_of st) r (named p Object r k h);
    goes = λ e so. let i = is_refers l t (count_of st) r (named p Object r k h) e so in (ranges_hold e Object (reference st.references) (Refers r) h i, (r, i, refl));
    heap = refl;
    locals = refl;
  }
  new_is p Claim st (Int z) k h = absurd (cc)
  new_is p Claim st (Refers r) k h = record {
    extension = a_reference l t (count_of st) r (named p Claim r k h);
    goes = λ e so. let i = is_refers l t (count_of st) r (named p Claim r k h) e so in (ranges_hold e Claim (reference st.references) (Refers r) h i, (r, i, refl));
    heap = refl;
    locals = refl;
  }

  -- The fields of a new object, from number n on.

  -- fields of the table, of the program's types
  pub record FieldsAre (p : Program) (n k : ℕ) : Type 0 where
    pub each : (j : ℕ) → j < k → (i : FieldInfo) × (slice_get p.fields.items (n + j) ≡ Some i) × (is_type p i.ty ≡ true)

  fields_more : (p : Program) (n k : ℕ) → FieldsAre p n (suc k) → FieldsAre p (n + 1) k
  fields_more p n k a = record { each = λ j less. let z : n + suc j ≡ n + 1 + j = omega arith in subst (λ m. (i : FieldInfo) × (slice_get p.fields.items m ≡ Some i) × (is_type p i.ty ≡ true)) z (a.each (suc j) (omega (arith, less))) }

  first_type : (p : Program) (n k : ℕ) → FieldsAre p n (suc k) → Tabled p n × (is_type p (type_of_field p n) ≡ true)
  first_type p n k a =
      let z : n + 0 ≡ n = omega arith in
      let i = a.each 0 (omega arith) in
      let at : slice_get p.fields.items n ≡ Some i.0 = ap (λ m. slice_get p.fields.items m) (sym z) ∙ i.1 in
      ((i.0, at), subst (λ ty. is_type p ty ≡ true) (sym (ap field_type at)) i.2)

  -- the constants of a new object's fields can have these values
  pub record ContentsAre (st : State) (q : Execution ValuesAndState) (vs : List Value) : Type 1 where
    pub extension : Extension l t (count_of st) (count_of q.gives.state)
    pub goes : (e : Environment l t) → extension.So e → All e (facts q.path) × AllStand l t e q.gives.values vs
    pub heap : q.gives.state.heap ≡ st.heap
    pub locals : q.gives.state.locals ≡ st.locals

  facts_done : (e : Environment l t) (q : Path) → All e (facts q) → All e (facts (sequence q Done))
  facts_done e q a = facts_both (Environment l t) (Holds l t) q Done e a tt

  pub contents_are : (p : Program) (x : Spot) (n k : ℕ) (st : State) (vs : List Value) → FieldsAre p n k → fields_fit p n k vs ≡ true → ContentsAre st (contents p x n k st) vs
  unfolding runs.both_extensions runs.no_extension
  contents_are p x n zero st [] a fit = record { extension = no_extension l t (count_of st) (count_of st) (same_count l t (count_of st) (count_of st) refl); goes = λ e so. (tt, tt); heap = refl; locals = refl }
  contents_are p x n zero st (v ∷ vs) a fit = absurd (cc)
  contents_are p x n (suc k) st [] a fit = absurd (cc)
  contents_are p x n (suc k) st (v ∷ vs) a fit =
      let b = and_both (in_type (type_of_field p n) v) (fields_fit p (n + 1) k vs) fit in
      let q = new_value (type_of_field p n) st in
      let w = new_is p (type_of_field p n) st v (first_type p n k a).1 b.0 in
      let y = contents_are p x (n + 1) k q.gives.state vs (fields_more p n k a) b.1 in
      let r = contents p x (n + 1) k q.gives.state in
      record {
        extension = both_extensions l t (count_of st) (count_of q.gives.state) (count_of r.gives.state) w.extension y.extension;
        goes = λ e so. let z = w.goes e so.0 in let u = y.goes e so.1 in (facts_both (Environment l t) (Holds l t) q.path (sequence r.path Done) e z.0 (facts_done e r.path u.0), (z.1, u.1));
        heap = y.heap ∙ w.heap;
        locals = y.locals ∙ w.locals;
      }

  -- a heap with these fields of an object set
  pub fields_have : (e : Environment l t) (o : Formula) (r : Ref) → Has l t e o (Refers r) → (n k : ℕ) (ws : List Symbolic) (vs : List Value) (y : Formula) (z : RawHeap) → length vs ≡ k → FieldsAre l.program n k → kit.Has l e.env y (HeapValue z) → AllStand l t e ws vs → kit.Has l e.env (with_fields o n ws y) (HeapValue (filled_raw z r n vs))
  fields_have e o r ho n k [] [] y z many a hy s = hy
  fields_have e o r ho n k [] (v ∷ vs) y z many a hy s = absurd s
  fields_have e o r ho n k (w ∷ ws) [] y z many a hy s = absurd s
  fields_have e o r ho n zero (w ∷ ws) (v ∷ vs) y z many a hy s = absurd (omega (arith, many))
  fields_have e o r ho n (suc k) (w ∷ ws) (v ∷ vs) y z many a hy s =
      let table = (first_type l.program n k a).0 in
      fields_have e o r ho (n + 1) k ws vs (set (field_column n) y (o ∷ []) (term w)) (store_at z (FieldAt n) r v) (omega (arith, many)) (fields_more l.program n k a) (set_has [] (Field n) (field_column_at l.program n table.0 table.1) hy ho none (stands_term l t e w v s.0)) s.1

  pub fields_sorted : (p : Program) (n k : ℕ) (vs : List Value) → FieldsAre p n k → fields_fit p n k vs ≡ true → AllSorted p n vs
  fields_sorted p n zero [] a fit = tt
  fields_sorted p n zero (v ∷ vs) a fit = absurd (cc)
  fields_sorted p n (suc k) [] a fit = tt
  fields_sorted p n (suc k) (v ∷ vs) a fit =
      let b = and_both (in_type (type_of_field p n) v) (fields_fit p (n + 1) k vs) fit in
      (typed_sorted (type_of_field p n) v b.0 (value_of_type p (type_of_field p n) v (first_type p n k a).1 b.0), fields_sorted p (n + 1) k vs (fields_more p n k a) b.1)

  -- zeros are values of any fields
  pub zeros : Program → ℕ → ℕ → List Value
  zeros p n zero = []
  zeros p n (suc k) = zero_of (type_of_field p n) ∷ zeros p (n + 1) k

  pub zeros_fit : (p : Program) (n k : ℕ) → fields_fit p n k (zeros p n k) ≡ true
  unfolding zeros
  zeros_fit p n zero = refl
  zeros_fit p n (suc k) = ap (λ b. b && fields_fit p (n + 1) k (zeros p (n + 1) k)) (zero_in_type (type_of_field p n)) ∙ zeros_fit p (n + 1) k
