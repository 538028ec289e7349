-- New objects, in the run and on the path.
use Rattle.std.proofs.Common.{◌≡◌, ℕ, zero, suc, ◌+◌, ◌<◌, ◌==◌, ⊎_elim, Bool, true, false, cond, ◌&&◌, if◌then◌else◌, List, [], ◌∷◌, length, Option, Some, None, slice_get, pos, refl, ap, sym, ◌∙◌, subst, arith}
use Rattle.std.specs.Prelude.{nat_le, nat_lt}
use Rattle.std.proofs.lemmas.Bool.{eqb-true, eq-eqb, le-leb, lt-ltb}
use Rattle.object_types.specs.declared.references.Ref.{Ref}
use Rattle.object_types.specs.declared.values.Value.{Value}
use Rattle.object_types.specs.declared.values.Value.TheVariants.{Int, Ref as Refers}
use Rattle.object_types.specs.declared.records.Mode.TheVariants.{Absent}
use Rattle.object_types.specs.References.{null, is_reference}
use Rattle.object_types.specs.Values.{truth, same_value}
use Rattle.object_types.specs.Heap.{Heap, put, is_absent}
use Rattle.method.specs.declared.program.CheckKind.{CheckKind}
use Rattle.method.specs.declared.program.FieldInfo.{FieldInfo}
use Rattle.method.specs.declared.program.StructInfo.{StructInfo}
use Rattle.method.specs.declared.program.FunctionInfo.{FunctionInfo}
use Rattle.method.specs.declared.program.Program.{Program}
use Rattle.method.specs.Tables.{local, belongs, is_struct, struct_of, struct_test}
use Rattle.method.specs.WellFormed.{IsHeapOf}
use Rattle.method.specs.Typing.{is_type, is_field_range, WellTyped}
use Rattle.method.specs.Expressions.{Spot as MachineSpot, End, Misfit, Failed, Gave, Outcome, Unfit, Gives as MachineGives, goes_on}
use Rattle.method.specs.Expressions as x
use Rattle.method.specs.Overflow.{Overflow}
use Rattle.method.specs.Actions.{Progress, Valued as MachineValued, Supply, Fresh, Chosen, Picked, Took, take_object, new_object, first_field, no_choices, contents_fit, malloc_fits, fields_fit}
use Rattle.method.specs.Actions as m
use Rattle.method.proofs.Global.{and_both, both_and}
use Rattle.machine_laws.proofs.Outcomes.{OnGave, after_gave}
use Rattle.machine_laws.proofs.Typed.{or_cases, Env}
use Rattle.machine_laws.proofs.Claims.{Taken, take_object_gave}
use Rattle.machine_laws.proofs.Simple.{same_value_to}
use Rattle.machine_laws.proofs.Records.{struct_reference}
use Rattle.terms.specs.Formula.{Formula}
use Rattle.term_meaning.specs.Columns.{Modes, Owners}
use Rattle.term_meaning.specs.RawHeaps.{raw, store_at, mode_number, ModeAt, OwnerAt}
use Rattle.term_meaning.specs.Meaning.{Language, PlainValue, HeapValue}
use Rattle.axiom_instances.proofs.Kit as kit
use Rattle.axiom_instances.proofs.Kit.{none, one, node_has}
use Rattle.axiom_instances.proofs.Maps.{set_has}
use Rattle.conditions.specs.Formulas.{nat, me, eq, and', or', all_of, typ, mode, status, reference, heap}
use Rattle.conditions.specs.Formulas as fs
use Rattle.conditions.specs.Paths.{Done, Fact, Execution}
use Rattle.conditions.specs.Code.{Spot, State, ValueAndState, new_reference, new_heap}
use Rattle.conditions.specs.Actions.{ValuesAndState, contents, with_fields}
use Rattle.conditions.specs.Actions as p
use Rattle.conditions.proofs.Ways.{facts_both}
use Rattle.conditions.proofs.FromRuns.{count_of}
use Rattle.condition_meaning.proofs.Environments.{Environment, Has, HeapIs, Holds, has_int, has_me, has_null, holds_eq, holds_same, holds_and, holds_all, holds_first, holds_second}
use Rattle.condition_meaning.proofs.Extensions.{a_reference, is_refers, a_heap, is_heap}
use Rattle.action_conditions.proofs.Words.{has_mode}
use Rattle.action_conditions.proofs.Places.{Stands, ShownAt, Stated, AllStand}
use Rattle.action_conditions.proofs.Columns.{new_stored}
use Rattle.action_conditions.proofs.NewValues.{FieldsAre, ContentsAre, contents_are, fields_have, fields_sorted, zeros, zeros_fit}
use Rattle.conditions.proofs.FromRuns as runs
use Rattle.action_conditions.proofs.Goes.{Goes, both_extensions}

-- What a malloc leads to: NULL and nothing else, or a new object where nothing stood.
pub data Malloced (p : Program) (me : Ref) (ty : ℕ) (g : Progress) (v : MachineValued) : Type 0 where
  Nothing : v.value ≡ Refers null → v.starting.heap ≡ g.heap → v.starting.locals ≡ g.locals → Malloced p me ty g v
  Made : (o : Ref) (vs : List Value) → v.value ≡ Refers o → v.starting.heap ≡ put g.heap o (new_object me (first_field (struct_of p ty)) vs) → v.starting.locals ≡ g.locals → o.ty ≡ ty → (g.heap.get o).mode ≡ Absent → contents_fit p (struct_of p ty) vs ≡ true → Malloced p me ty g v

-- it doesn't fail
abbrev pub NoFault : {A : Type 0} → End A → Type 0
NoFault Misfit = Unit {0}
NoFault (Failed n kind line) = ⊥
NoFault (Gave v) = Unit {0}

pub no_fault : {A : Type 0} (o : Outcome A) (n : ℕ) (kind : CheckKind) (line : ℕ) → NoFault o.end → o.end ≡ Failed n kind line → ⊥
no_fault o n kind line k e = subst (λ y. NoFault y) e k

after_no_fault : {A B : Type 0} (w : Option Overflow) (y : End A) (f : A → Outcome B) → NoFault y → ((v : A) → NoFault (f v).end) → NoFault (goes_on w y f).end
after_no_fault w Misfit f k j = tt
after_no_fault w (Failed n kind line) f k j = absurd k
after_no_fault w (Gave v) f k j = j v

taking : (b : Bool) (t : Took) → NoFault (cond b (MachineGives t) Unfit).end
taking true t = tt
taking false t = tt

take_no_fault : (s : Supply) (ty : ℕ) (h : Heap) → NoFault (take_object s ty h).end
take_no_fault (Fresh n) ty h = tt
take_no_fault (Chosen []) ty h = tt
take_no_fault (Chosen (r ∷ rs)) ty h = taking ((r.ty == ty) && is_absent (h.get r).mode) _
take_no_fault (Picked n []) ty h = tt
take_no_fault (Picked n (r ∷ rs)) ty h = taking ((r.ty == ty) && is_absent (h.get r).mode) _

module _ (p : Program) (at_ : MachineSpot) (ty : ℕ) (g : Progress) where
  made : List Value → Took → MachineValued
  made vs t = record { value = Refers t.which; starting = record g { heap = put g.heap t.which (new_object at_.context.me (first_field (struct_of p ty)) vs); supply = t.supply } }

  pub malloc_no_fault : (choices : List Value) → NoFault (m.malloc p at_ ty choices g).end
  malloc_no_fault [] = tt
  malloc_no_fault (c ∷ vs) = by (truth c)
    where
      by : (b : Bool) → NoFault {A = MachineValued} (if b then x.after (take_object g.supply ty g.heap) (λ t. MachineGives (record { value = Refers t.which; starting = record g { heap = put g.heap t.which (new_object at_.context.me (first_field (struct_of p ty)) vs); supply = t.supply } })) else MachineGives (record { value = Refers null; starting = g })).end
      by true = after_no_fault (take_object g.supply ty g.heap).overflow (take_object g.supply ty g.heap).end _ (take_no_fault g.supply ty g.heap) (λ t. tt)
      by false = tt

  pub malloced : (f : FunctionInfo) → Env p f g.heap g.locals → (choices : List Value) → malloc_fits p ty choices ≡ true → OnGave (m.malloc p at_ ty choices g) (Malloced p at_.context.me ty g)
  malloced f env [] fit = tt
  malloced f env (c ∷ vs) fit = by (truth c) refl
    where
      fits_it : truth c ≡ true → contents_fit p (struct_of p ty) vs ≡ true
      fits_it e = ⊎_elim
          (λ a. absurd (cc (same_value_to c (Int (pos 0)) (and_both (same_value c (Int (pos 0))) (no_choices vs) a).0, e)))
          (λ a. (and_both (same_value c (Int (pos 1))) (contents_fit p (struct_of p ty) vs) a).1)
          (or_cases (same_value c (Int (pos 0)) && no_choices vs) (same_value c (Int (pos 1)) && contents_fit p (struct_of p ty) vs) fit)

      by : (b : Bool) → truth c ≡ b → OnGave (if b then x.after (take_object g.supply ty g.heap) (λ t. MachineGives (record { value = Refers t.which; starting = record g { heap = put g.heap t.which (new_object at_.context.me (first_field (struct_of p ty)) vs); supply = t.supply } })) else MachineGives (record { value = Refers null; starting = g })) (Malloced p at_.context.me ty g)
      by true e = after_gave (take_object g.supply ty g.heap) _ (Taken ty g.heap) (Malloced p at_.context.me ty g) (take_object_gave p g.supply ty g.heap env.heap) (λ t new. Made t.which vs refl refl refl (eqb-true t.which.ty ty new.type_is) new.absent (fits_it e))
      by false e = Nothing refl refl refl

struct_some : (p : Program) (o : Option StructInfo) → struct_test (λ s. true) o ≡ true → (s : StructInfo) × (o ≡ Some s)
struct_some p None e = absurd (cc)
struct_some p (Some s) e = (s, refl)

pub struct_is : (p : Program) (ty : ℕ) → is_struct p ty ≡ true → (s : StructInfo) × (struct_of p ty ≡ Some s)
struct_is p ty e = struct_some p (struct_of p ty) e

-- the fields of a struct are in the table, of the program's types
pub struct_fields : (l : Language) (t : Ref) (p : Program) (typed : WellTyped p) (ty : ℕ) (s : StructInfo) → struct_of p ty ≡ Some s → FieldsAre l t p s.first_field s.fields
struct_fields l t p typed ty s is = record { each = λ j less. by j (slice_get p.fields.items (s.first_field + j)) refl (typed.fields ty (s.first_field + j) s is ∙ in_range j less) }
  where
    in_range : (j : ℕ) → j < s.fields → is_field_range p ty (s.first_field + j) s ≡ true
    in_range j less = both_and (nat_le s.first_field (s.first_field + j)) (nat_lt (s.first_field + j) (s.first_field + s.fields)) (le-leb s.first_field (s.first_field + j) (omega arith)) (lt-ltb (s.first_field + j) (s.first_field + s.fields) (omega (arith, less)))

    by : (j : ℕ) (o : Option FieldInfo) → slice_get p.fields.items (s.first_field + j) ≡ o → belongs o ty ≡ true → (i : FieldInfo) × (slice_get p.fields.items (s.first_field + j) ≡ Some i) × (is_type p i.ty ≡ true)
    by j None e b = absurd (cc)
    by j (Some i) e b = (i, e, typed.field_types (s.first_field + j) i e)

module _ (l : Language) (typed : WellTyped l.program) (t : Ref) (f : FunctionInfo) (a : Spot) (at_ : MachineSpot) (mine : at_.context.me ≡ t) (hid : ℕ → Bool) (st : State) (g : Progress) (env : Env l.program f g.heap g.locals) (ty : ℕ) (st_ty : is_struct l.program ty ≡ true) where
  abbrev P : Program
  P = l.program

  abbrev E : Type 0
  E = Environment l t

  module _ (s : StructInfo) (is : struct_of P ty ≡ Some s) where
    abbrev fields_state : State
    fields_state = (new_reference st).state

    abbrev w : Execution ValuesAndState
    w = contents P a s.first_field s.fields fields_state

    abbrev last : State
    last = new_heap w.gives.state

    -- the formula that says what was made
    abbrev new_formulas : List Formula
    new_formulas = eq (typ (reference st.references)) (nat ty) ∷ eq (mode st.heap (reference st.references)) (nat 0) ∷ eq last.heap (with_fields (reference st.references) s.first_field w.gives.values (status st.heap (reference st.references) (nat 1) me)) ∷ []

    abbrev made_formula : Formula
    made_formula = or' (and' (eq (reference st.references) fs.null) (eq last.heap st.heap)) (all_of new_formulas)

    abbrev path : Execution ValueAndState
    path = p.malloc P a ty (Some s) st

    -- the reference, the fields and the heap are made so
    made_goes : (o : Ref) → is_reference o ≡ true → (us : List Value) → fields_fit P s.first_field s.fields us ≡ true → (v : MachineValued) → IsHeapOf P v.starting.heap → v.value ≡ Refers o → v.starting.locals ≡ g.locals
        → ((e : E) → Stated l t hid a at_ st g.heap g.locals e → Has l t e (reference st.references) (Refers o) → AllStand l t e w.gives.values us → HeapIs l t e last.heap v.starting.heap → Holds l t e made_formula)
        → Goes l t (count_of st) (count_of path.gives.state) path.path (Stated l t hid a at_ st g.heap g.locals) (λ e. Stated l t hid a at_ path.gives.state v.starting.heap v.starting.locals e × Stands l t e path.gives.value v.value)
    unfolding runs.both_extensions
    made_goes o named us fit v proper is_v same k =
        let x : ContentsAre l t fields_state w us = contents_are l t P a s.first_field s.fields fields_state us (struct_fields l t P typed ty s is) fit in
        record {
          extension = both_extensions l t (count_of st) (count_of fields_state) (count_of last) (a_reference l t (count_of st) o named) (both_extensions l t (count_of fields_state) (count_of w.gives.state) (count_of last) x.extension (a_heap l t (count_of w.gives.state) v.starting.heap proper));
          goes = λ e so here.
              let r = is_refers l t (count_of st) o named e so.0 in
              let c = x.goes e so.1.0 in
              let h = is_heap l t (count_of w.gives.state) v.starting.heap proper e so.1.1 in (
                facts_both E (Holds l t) w.path (Fact made_formula Done) e c.0 (k e here r c.1 h, tt),
                (
                  record { spot = here.spot; many = ap length x.locals ∙ here.many ∙ sym (ap length same); heap = h; locals = subst (λ (ls : List Value). ShownAt l t hid e 0 w.gives.state.locals (local ls)) (sym same) (subst (λ ws. ShownAt l t hid e 0 ws (local g.locals)) (sym x.locals) here.locals) },
                  (o, r, is_v),
                ),
              );
        }

    pub malloc_some_goes : (v : MachineValued) → Malloced P at_.context.me ty g v → IsHeapOf P v.starting.heap
        → Goes l t (count_of st) (count_of path.gives.state) path.path (Stated l t hid a at_ st g.heap g.locals) (λ e. Stated l t hid a at_ path.gives.state v.starting.heap v.starting.locals e × Stands l t e path.gives.value v.value)
    malloc_some_goes v (Nothing value heaps same) proper =
        made_goes null refl (zeros l t P s.first_field s.fields) (zeros_fit l t P s.first_field s.fields) v proper value same (λ e here r c h.
        holds_first l t e _ _ (holds_and l t e (eq (reference st.references) fs.null) (eq last.heap st.heap) (holds_eq l t e (reference st.references) fs.null (Refers null) r (has_null l t e)) (holds_same l t e last.heap st.heap g.heap (subst (λ (y : Heap). HeapIs l t e last.heap y) heaps h) here.heap)))
    malloc_some_goes v (Made o vs value heaps same type_is absent fit) proper =
        let us = sym (ap (λ z. contents_fit P z vs) is) ∙ fit in
        let fields = struct_fields l t P typed ty s is in
        made_goes o (struct_reference P ty o st_ty (eq-eqb o.ty ty type_is)) vs us v proper value same (λ e here r c h.
        holds_second l t e _ _ (holds_all l t e new_formulas (
          kit.eq_holds (node_has (one r) refl) (has_int l t e (pos ty)) (ap (λ n. PlainValue (Int (pos n))) type_is),
          (
            kit.eq_holds (has_mode l t e st.heap g.heap here.heap (reference st.references) o r) (has_int l t e (pos 0)) (ap (λ m. PlainValue (Int (mode_number m))) absent),
            (
              kit.eq_holds h
                  (fields_have l t e (reference st.references) o r s.first_field s.fields w.gives.values vs (status st.heap (reference st.references) (nat 1) me) (store_at (store_at (raw P g.heap) ModeAt o (Int (pos 1))) OwnerAt o (Refers at_.context.me)) (many_fit s.first_field s.fields vs us) fields
                  (set_has [] Owners refl (set_has [] Modes refl here.heap r none (has_int l t e (pos 1))) r none (subst (λ (q : Ref). Has l t e me (Refers q)) (sym mine) (has_me l t e))) c)
                  (ap HeapValue (ap (raw P) heaps ∙ ap (λ n. raw P (put g.heap o (new_object at_.context.me n vs))) (ap first_field is) ∙ new_stored P g.heap o at_.context.me s.first_field vs (env.heap.absent o absent) (fields_sorted l t P s.first_field s.fields vs fields us))),
              tt,
            ),
          ),
        )))
      where
        many_fit : (n k : ℕ) (vs : List Value) → fields_fit P n k vs ≡ true → length vs ≡ k
        many_fit n zero [] e = refl
        many_fit n zero (v ∷ vs) e = absurd (cc)
        many_fit n (suc k) [] e = absurd (cc)
        many_fit n (suc k) (v ∷ vs) e = ap suc (many_fit (n + 1) k vs (and_both _ (fields_fit P (n + 1) k vs) e).1)
