-- From an environment to a run, of an allocation: its constants give NULL, or a new object with values in its fields.
use Rattle.std.proofs.Common.{◌≡◌, ℕ, zero, suc, ◌+◌, ◌==◌, ⊎_elim, Bool, true, if◌then◌else◌, pos, List, [], ◌∷◌, length, slice_get, Some, refl, ap, sym, ◌∙◌, subst}
use Rattle.object_types.specs.declared.references.Ref.{Ref}
use Rattle.object_types.specs.declared.values.Value.{Value}
use Rattle.object_types.specs.declared.values.Value.TheVariants.{Int, Ref as Refers}
use Rattle.object_types.specs.References.{null as null_ref}
use Rattle.object_types.specs.Heap.{Heap, put, is_absent}
use Rattle.object_types.specs.declared.records.Mode.TheVariants.{Absent}
use Rattle.method.specs.declared.program.StructInfo.{StructInfo}
use Rattle.method.specs.declared.program.FunctionInfo.{FunctionInfo}
use Rattle.method.specs.declared.program.Program.{Program}
use Rattle.method.specs.Tables.{local, in_type, type_of_field, struct_of, is_struct}
use Rattle.method.specs.Legal.{Good}
use Rattle.method.specs.Machine.{fit_parameters}
use Rattle.method.specs.Typing.{WellTyped}
use Rattle.method.specs.Expressions.{Context, Gave, Unfit, Gives as GivesOut, after as outcome_after}
use Rattle.method.specs.Actions as act
use Rattle.method.specs.Actions.{Chosen, Took, Valued, spot, starting, fields_fit, contents_fit, malloc_fits, first_field, new_object}
use Rattle.method.proofs.Global.{both_and}
use Rattle.terms.specs.Formula.{Formula}
use Rattle.term_meaning.specs.Columns.{Modes, Owners}
use Rattle.term_meaning.specs.RawHeaps.{raw, store_at, ModeAt, OwnerAt}
use Rattle.term_meaning.specs.Meaning.{Language, Value as Meant, HeapValue}
use Rattle.axiom_instances.proofs.Kit as kit
use Rattle.axiom_instances.proofs.Kit.{none, eq_given, given_has, node_has, either_given, both_given}
use Rattle.axiom_instances.proofs.Facts.{Shown, is_absent_mode}
use Rattle.axiom_instances.proofs.Maps.{set_has}
use Rattle.conditions.specs.Formulas.{nat, me, eq, typ, mode, status, reference}
use Rattle.conditions.specs.Formulas as fs
use Rattle.conditions.specs.Paths.{Done, Execution, Gives, after, facts}
use Rattle.conditions.specs.Code.{Spot, State, ValueAndState, new_value, new_reference, new_heap}
use Rattle.conditions.specs.Actions as walk
use Rattle.conditions.specs.Actions.{ValuesAndState, contents, with_fields}
use Rattle.conditions.specs.Ways.{AllHold}
use Rattle.conditions.proofs.Ways.{facts_apart}
use Rattle.condition_meaning.specs.Annotated.{Annotated}
use Rattle.condition_meaning.specs.FunctionWords.{ContractFits}
use Rattle.condition_meaning.proofs.Environments.{Environment, Has, HeapIs, Holds, has_int, has_me, has_null}
use Rattle.condition_meaning.proofs.Interference.{heap_of}
use Rattle.condition_meaning.proofs.Known.{Known, heap_equal, known_parts}
use Rattle.action_conditions.proofs.Columns.{new_stored}
use Rattle.action_conditions.proofs.Mallocs.{struct_is, struct_fields}
use Rattle.action_conditions.proofs.NewBacks.{new_back}
use Rattle.action_conditions.proofs.NewValues.{is_typed, fields_have, fields_sorted}
use Rattle.action_conditions.proofs.Places.{AllStand, ShownAt, Stands, Stated}
use Rattle.action_conditions.proofs.Plain as plainly
use Rattle.action_conditions.proofs.Words.{has_mode}
use Rattle.converse_law.proofs.Parts as parts
use Rattle.converse_law.proofs.Paths.{Knows}

module _ (p : Program) (good : Annotated p) (typed : WellTyped p) (contracts : (n : ℕ) (g : FunctionInfo) → slice_get p.functions.items n ≡ Some g → ContractFits p g)
    (number : ℕ) (f : FunctionInfo) (fis : slice_get p.functions.items number ≡ Some f) (n0 : ℕ) (h0 : Heap) (args : List Value) (good0 : Good p h0) (fit : fit_parameters f args ≡ true)
    (e : Environment (parts.l p good typed contracts number f fis n0 h0 args good0 fit) (parts.T p good typed contracts number f fis n0 h0 args good0 fit)) (spotted : parts.Spotted p good typed contracts number f fis n0 h0 args good0 fit e)
  where
    abbrev l : Language
    l = parts.l p good typed contracts number f fis n0 h0 args good0 fit

    abbrev T : Ref
    T = parts.T p good typed contracts number f fis n0 h0 args good0 fit

    abbrev x : Context
    x = parts.x p good typed contracts number f fis n0 h0 args good0 fit

    abbrev a : Spot
    a = parts.a p good typed contracts number f fis n0 h0 args good0 fit

    abbrev Matches : (ℕ → Bool) → State → Heap → List Value → Type 0
    Matches hid st h v = parts.Matches p good typed contracts number f fis n0 h0 args good0 fit e spotted hid tt st h v

    abbrev All : List Formula → Type 0
    All = AllHold (Unit {0}) (Knows l T e) tt

    abbrev Truths : List Formula → Type 0
    Truths = AllHold (Environment l T) (Holds l T) e

    -- The fields: values of their types.
    record Fields (n k : ℕ) (st : State) (u : ValuesAndState) : Type 0 where
      values : List Value
      fits : fields_fit p n k values ≡ true
      many : length values ≡ k
      stand : AllStand l T e u.values values
      heap_is : u.state.heap ≡ st.heap
      locals_are : u.state.locals ≡ st.locals

    fields_back : (n k : ℕ) (st : State) → Truths (facts (contents p a n k st).path) → Fields n k st (contents p a n k st).gives
    fields_back n zero st all = record { values = []; fits = refl; many = refl; stand = tt; heap_is = refl; locals_are = refl }
    fields_back n (suc k) st all =
        let q = new_value (type_of_field p n) st in
        let r = contents p a (n + 1) k q.gives.state in
        let in_front : ValuesAndState → Execution ValuesAndState = λ w. Gives (record { values = q.gives.value ∷ w.values; state = w.state }) in
        let two = facts_apart (Environment l T) (Holds l T) q.path (after r in_front).path e all in
        let three = facts_apart (Environment l T) (Holds l T) r.path Done e two.1 in
        let b = new_back l T e (type_of_field p n) st two.0 in
        let more = fields_back (n + 1) k q.gives.state three.0 in
        record {
          values = b.value ∷ more.values;
          fits = both_and (in_type (type_of_field p n) b.value) (fields_fit p (n + 1) k more.values) b.in_it more.fits;
          many = ap suc more.many;
          stand = (b.stands, more.stand);
          heap_is = more.heap_is ∙ b.heap;
          locals_are = more.locals_are ∙ b.locals;
        }

    -- a run of the allocation
    pub record New (hid : ℕ → Bool) (line : ℕ) (h : Heap) (v : List Value) (ty : ℕ) (u : ValueAndState) : Type 0 where
      pub choices : List Value
      pub news : List Ref
      pub made : Valued
      pub fits : malloc_fits p ty choices ≡ true
      pub gave : (act.malloc p (spot x choices line) ty choices (starting h v (Chosen news))).end ≡ Gave made
      pub there : Stated l T hid a (spot x choices line) u.state made.starting.heap made.starting.locals e
      pub stands : Stands l T e u.value made.value

    module _ (hid : ℕ → Bool) (line : ℕ) (st : State) (h : Heap) (v : List Value) (m : Matches hid st h v) (ty : ℕ) where
      abbrev r : Formula
      r = reference st.references

      module _ (s : StructInfo) (is : struct_of p ty ≡ Some s) where
        abbrev path : Execution ValueAndState
        path = walk.malloc p a ty (Some s) st

        abbrev w : Execution ValuesAndState
        w = contents p a s.first_field s.fields (new_reference st).state

        abbrev last : State
        last = new_heap w.gives.state

        abbrev filled : Formula
        filled = with_fields r s.first_field w.gives.values (status st.heap r (nat 1) me)

        module _ (o : Ref) (has : Has l T e r (Refers o)) (k : Heap) (shown : Shown l e.env last.heap k) (b : Fields s.first_field s.fields (new_reference st).state w.gives) where
          -- the place behind, with any heap that its term is
          stated : (choices : List Value) (j : Heap) → HeapIs l T e last.heap j → Stated l T hid a (spot x choices line) last j v e
          stated choices j heap_is =
              let there = plainly.stated_of l typed T f x fis refl refl a choices line hid e st h v m.steady (parts.forth p good typed contracts number f fis n0 h0 args good0 fit e spotted hid st h v m) in
              record { spot = there.spot; many = ap length b.locals_are ∙ there.many; heap = heap_is; locals = subst (λ us. ShownAt l T hid e 0 us (local v)) (sym b.locals_are) there.locals }

          none_made : Known l T e (eq r fs.null) → Known l T e (eq last.heap st.heap) → New hid line h v ty path.gives
          none_made is_null same =
              let choices = Int (pos 0) ∷ [] in
              let null_is : Has l T e r (Refers null_ref) = subst (λ (z : Meant). kit.Has l e.env r z) (eq_given has (has_null l T e) is_null) has in
              record {
                choices = choices;
                news = [];
                made = record { value = Refers null_ref; starting = starting h v (Chosen []) };
                fits = refl;
                gave = refl;
                there = stated choices h (heap_equal l T e last.heap st.heap h same m.heap).has;
                stands = (null_ref, null_is, refl);
              }

          one_made : Known l T e (eq (typ r) (nat ty)) → Known l T e (eq (mode st.heap r) (nat 0)) → Known l T e (eq last.heap filled) → New hid line h v ty path.gives
          one_made of_type absent same =
              let type_is : (o.ty == ty) ≡ true = given_has (is_typed l T e r o ty has) of_type in
              let mode_is : (h.get o).mode ≡ Absent = is_absent_mode (h.get o).mode (eq_given (has_mode l T e st.heap h m.heap.has r o has) (has_int l T e (pos 0)) absent) in
              let choices = Int (pos 1) ∷ b.values in
              let news = o ∷ [] in
              let fields = struct_fields l T p typed ty s is in
              let k1 = put h o (new_object T (first_field (struct_of p ty)) b.values) in
              let full : kit.Has l e.env filled (HeapValue _) = fields_have l T e r o has s.first_field s.fields w.gives.values b.values (status st.heap r (nat 1) me) (store_at (store_at (raw p h) ModeAt o (Int (pos 1))) OwnerAt o (Refers T)) b.many fields
              (set_has [] Owners refl (set_has [] Modes refl m.heap.has has none (has_int l T e (pos 1))) has none (has_me l T e)) b.stand in
              let stored = ap (λ n. raw p (put h o (new_object T n b.values))) (ap first_field is) ∙ new_stored p h o T s.first_field b.values (m.steady.heap.absent o mode_is) (fields_sorted l T p s.first_field s.fields b.values fields b.fits) in
              let heap_is : HeapIs l T e last.heap k1 = subst (λ (z : Meant). kit.Has l e.env last.heap z) (eq_given shown.has full same ∙ ap HeapValue (sym stored)) shown.has in
              let g = starting h v (Chosen news) in
              record {
                choices = choices;
                news = news;
                made = record { value = Refers o; starting = record g { heap = k1; supply = Chosen [] } };
                fits = ap (λ z. contents_fit p z b.values) is ∙ b.fits;
                gave = ap (λ (z : Bool). (outcome_after {A = Took} (if z then GivesOut (record { which = o; supply = Chosen [] }) else Unfit) (λ t. GivesOut {A = Valued} (record { value = Refers t.which; starting = record g { heap = put h t.which (new_object T (first_field (struct_of p ty)) b.values); supply = t.supply } }))).end)
                    (both_and (o.ty == ty) (is_absent (h.get o).mode) type_is (ap is_absent mode_is));
                there = stated choices k1 heap_is;
                stands = (o, has, refl);
              }

        some_back : All (facts path.path) → New hid line h v ty path.gives
        some_back all =
            let z = e.is_env.references (pos st.references) in
            let has : Has l T e r (Refers z.0) = node_has none (sym z.1) in
            let k = heap_of l T e w.gives.state.heaps in
            let two = facts_apart (Unit {0}) (Knows l T e) w.path (walk.new_object p a ty s.first_field r st.heap w.gives).path tt all in
            let b = fields_back s.first_field s.fields (new_reference st).state (parts.all_true p good typed contracts number f fis n0 h0 args good0 fit e spotted (facts w.path) two.0) in
            ⊎_elim
            (λ y. let i = both_given y in none_made z.0 has k.0 k.1 b i.0 i.1)
            (λ y. let i = known_parts l T e (eq (typ r) (nat ty) ∷ eq (mode st.heap r) (nat 0) ∷ eq last.heap filled ∷ []) y in one_made z.0 has k.0 k.1 b i.0 i.1.0 i.1.1.0)
            (either_given two.1.0)

      pub new_from : is_struct p ty ≡ true → All (facts (walk.malloc p a ty (struct_of p ty) st).path) → New hid line h v ty (walk.malloc p a ty (struct_of p ty) st).gives
      new_from struct all =
          let s = struct_is p ty struct in
          subst (λ o. New hid line h v ty (walk.malloc p a ty o st).gives) (sym s.1)
          (some_back s.0 s.1 (subst (λ o. All (facts (walk.malloc p a ty o st).path)) s.1 all))
