-- From an environment to a run, of a call: where its facts are known the callee's contract has a run, and where a check isn't known true a run fails it.
use Rattle.std.proofs.Common.{◌≡◌, ℕ, ◌+◌, ◌⊎◌, inl, inr, ⊎_elim, Bool, true, false, List, [], ◌∷◌, map, length, slice_set, slice_get, Option, Some, None, Vec, Global, refl, ap, sym, ◌∙◌, subst, arith, true≢false}
use Rattle.std.proofs.lemmas.List.{length-map}
use Rattle.int_ranges.specs.declared.ctype.CType.{CType}
use Rattle.object_types.specs.declared.references.Ref.{Ref}
use Rattle.object_types.specs.declared.values.Value.{Value}
use Rattle.object_types.specs.Sets.{every}
use Rattle.object_types.specs.Heap.{Heap}
use Rattle.method.specs.declared.program.CheckKind.TheVariants.{Requires, Writes}
use Rattle.method.specs.declared.program.Clause.{Clause}
use Rattle.method.specs.declared.program.Expr.{Expr}
use Rattle.method.specs.declared.program.Spec.{Spec}
use Rattle.method.specs.declared.program.Receiver.{Receiver}
use Rattle.method.specs.declared.program.Receiver.TheVariants.{Nobody, NewVariable, Place as Left}
use Rattle.method.specs.declared.program.Stmt.TheVariants.{Call}
use Rattle.method.specs.declared.program.FunctionInfo.{FunctionInfo}
use Rattle.method.specs.declared.program.Program.{Program}
use Rattle.method.specs.Tables.{local}
use Rattle.method.specs.Legal.{Good}
use Rattle.method.specs.Rely.{Rely}
use Rattle.method.specs.Machine.{fit_parameters}
use Rattle.method.specs.Machine as machine_turn
use Rattle.method.specs.Typing.{WellTyped, call_ok, receiver_ok, result_values}
use Rattle.method.specs.Expressions.{Context, Spot as MachineSpot, Outcome, Gave, Gives as GivesOut, Tested, all_checks, after as outcome_after, eval_all, call_scene, clause_tests, item_tests, may_write, check_specs}
use Rattle.method.specs.Actions as act
use Rattle.method.specs.Actions.{Chosen, Progress, spot, starting, callee, conversion_checks, function_checks}
use Rattle.method.specs.Text.{call_checks, receiver_checks}
use Rattle.method.specs.LocalRuns as local_run
use Rattle.method.specs.LocalRuns.{FailsAt, Lazily, ActsTo, Calling, Answers, ReachesBy, FailsBy}
use Rattle.machine_laws.proofs.Acts.{call_args}
use Rattle.terms.specs.declared.term.Kind.TheVariants as kinds
use Rattle.terms.specs.Formula.{Formula}
use Rattle.term_meaning.specs.Meaning.{Language}
use Rattle.conditions.specs.Formulas.{node, me, heap}
use Rattle.conditions.specs.Symbolic.{Symbolic, term}
use Rattle.conditions.specs.Annotations.{formula, translate}
use Rattle.conditions.specs.Paths.{Done, Execution, after, facts, checks, check_each, all_facts}
use Rattle.conditions.specs.Code.{Spot, State, ValueAndState, new_heap, all_symbolic, writable, call_scene as term_call, return_scene as term_return}
use Rattle.conditions.specs.Actions as walk
use Rattle.conditions.specs.Actions.{Place, InLocal, InField, clauses, items_of}
use Rattle.conditions.specs.Statements.{any_result, receiving_place, receive, call_effect, call, stmt}
use Rattle.conditions.specs.Ways.{AllHold, FailsIn}
use Rattle.conditions.proofs.Ways.{facts_apart, fails_joined}
use Rattle.conditions.proofs.Tests.{after_gave, ends_all}
use Rattle.conditions.proofs.FailingTests.{ends_false}
use Rattle.conditions.proofs.Hiding.{after_stmt}
use Rattle.conditions.proofs.Joins.{check_gives}
use Rattle.conditions.proofs.Same.{both_true}
use Rattle.condition_walks.proofs.Calls as calls
use Rattle.condition_walks.proofs.Fitting.{FitsOther}
use Rattle.condition_walks.proofs.Kept.{gives_facts}
use Rattle.condition_walks.proofs.Sizes.{all_symbolic_size}
use Rattle.condition_walks.proofs.StatementSizes.{any_result_size, received_size}
use Rattle.condition_walks.specs.Conversions.{is_conversion_received}
use Rattle.condition_meaning.specs.Annotated.{Annotated}
use Rattle.condition_meaning.specs.FunctionWords.{ContractFits}
use Rattle.condition_meaning.proofs.Environments.{Environment, Agree, agree_self, agree_then, agree_less, Has, HeapIs, Holds, Is, holds_is, is_false, has_says, holds_eq, holds_same, holds_all, holds_first, holds_second}
use Rattle.condition_meaning.proofs.Extensions.{an_integer, is_integer, a_reference, is_refers, a_heap, is_heap}
use Rattle.condition_meaning.proofs.FunctionScenes.{EachIs}
use Rattle.condition_meaning.proofs.Interference.{heap_of, rely_of}
use Rattle.condition_meaning.proofs.Known.{Known}
use Rattle.method.specs.WellFormed.{IsHeapOf}
use Rattle.action_conditions.proofs.Acts.{lessen, set_stated}
use Rattle.action_conditions.proofs.Back.{known_tested, unknown_tested}
use Rattle.action_conditions.proofs.Places.{AllStand, ShownAt, Stands, Stated}
use Rattle.action_conditions.proofs.Plain as plainly
use Rattle.action_conditions.proofs.Steady.{Steady, moved_steady, steady_proper}
use Rattle.action_conditions.proofs.Stores.{on_gave, store_tests, stored_progress, ends_store, store_tested}
use Rattle.function_law.proofs.Given as given
use Rattle.converse_law.proofs.Parts as parts
use Rattle.converse_law.proofs.CallFits.{fits_call}
use Rattle.converse_law.proofs.CallParts as call_parts
use Rattle.converse_law.proofs.Callees as callees
use Rattle.converse_law.proofs.Paths.{Knows, checks_apart, known_apart, fails_known, at_number, none_fails, fails_front, fails_behind, specs_pass, each_holds, specs_apart}

module _ (p : Program) (good : Annotated p) (typed : WellTyped p) (contracts : (n : ℕ) (g : FunctionInfo) → slice_get p.functions.items n ≡ Some g → ContractFits p g)
    (number : ℕ) (f : FunctionInfo) (fis : slice_get p.functions.items number ≡ Some f) (n0 : ℕ) (h0 : Heap) (args : List Value) (good0 : Good p h0) (fit : fit_parameters f args ≡ true)
    (e : Environment (parts.l p good typed contracts number f fis n0 h0 args good0 fit) (parts.T p good typed contracts number f fis n0 h0 args good0 fit)) (spotted : parts.Spotted p good typed contracts number f fis n0 h0 args good0 fit e)
  where
    abbrev l : Language
    l = parts.l p good typed contracts number f fis n0 h0 args good0 fit

    abbrev T : Ref
    T = parts.T p good typed contracts number f fis n0 h0 args good0 fit

    abbrev x : Context
    x = parts.x p good typed contracts number f fis n0 h0 args good0 fit

    abbrev a : Spot
    a = parts.a p good typed contracts number f fis n0 h0 args good0 fit

    abbrev Matches : (ℕ → Bool) → State → Heap → List Value → Type 0
    Matches hid st h v = parts.Matches p good typed contracts number f fis n0 h0 args good0 fit e spotted hid tt st h v

    abbrev All : List Formula → Type 0
    All = AllHold (Unit {0}) (Knows l T e) tt

    abbrev FailsOn : ℕ → ℕ → Execution State → Type 0
    FailsOn label n t = FailsIn (Unit {0}) (Knows l T e) label n t.path tt

    abbrev PlaceIs : Option Place → Option act.Place → Type 0
    PlaceIs = call_parts.PlaceIs p good typed contracts number f fis n0 h0 args good0 fit e spotted

    abbrev Less : (ℕ → Bool) → (ℕ → Bool) → Option Place → Type 0
    Less = call_parts.Less p good typed contracts number f fis n0 h0 args good0 fit e spotted

    -- a call whose left side and arguments are worked out
    abbrev Called : (ℕ → Bool) → ℕ → Receiver → Option CType → ℕ → Vec Expr Global → ℕ → Heap → List Value → FunctionInfo → List Value → Option act.Place → Type 0
    Called hid line to c q es n h v g vs pl = calls.Called (Environment l T) (Agree l T) (agree_self l T) (agree_then l T) (agree_less l T) (Holds l T) (Is l T) (Has l T) (HeapIs l T) (has_says l T) (holds_eq l T) (holds_same l T) (holds_all l T) (holds_first l T) (holds_second l T) (an_integer l T) (is_integer l T) (a_reference l T) (is_refers l T) (IsHeapOf p) (a_heap l T) (is_heap l T) (given.size p good typed contracts number f fis n0 h0 args good0 fit) (given.Spotted p good typed contracts number f fis n0 h0 args good0 fit) (holds_is l T) (is_false l T) (given.ranges_are p good typed contracts number f fis n0 h0 args good0 fit) (given.zero_is p good typed contracts number f fis n0 h0 args good0 fit) p number x f a (Steady p f) (steady_proper p f) (given.size_is p good typed contracts number f fis n0 h0 args good0 fit) (given.code_has p good typed contracts number f fis n0 h0 args good0 fit) (given.pointer_refers p good typed contracts number f fis n0 h0 args good0 fit) (given.range_has p good typed contracts number f fis n0 h0 args good0 fit) hid line to c q es n h v g vs pl

    abbrev calling : ℕ → Heap → FunctionInfo → List Value → Option act.Place → Calling
    calling q h g vs pl = record { place = pl; info = g; context = callee p q g T h vs }

    -- A call of a function of the table, on its way.
    module _ (hid : ℕ → Bool) (line : ℕ) (to : Receiver) (c : Option CType) (q : ℕ) (es : Vec Expr Global) (n : ℕ) (h : Heap) (v : List Value) (g : FunctionInfo) (vs : List Value) (pl : Option act.Place) (called : Called hid line to c q es n h v g vs pl) where
      abbrev here : MachineSpot
      here = spot x [] line

      abbrev last : ℕ
      last = n + call_checks p to q es.items

      abbrev StatedAt : (ℕ → Bool) → State → Heap → List Value → Type 0
      StatedAt hid st k v = Stated l T hid a here st k v e

      arguments_fit : fit_parameters g vs ≡ true
      arguments_fit =
          let o = both_true (call_ok p f (slice_get p.functions.items q) es.items) (receiver_ok p f to (result_values p f (slice_get p.functions.items q) c)) called.fits.typed in
          on_gave (eval_all p here h v es.items (n + receiver_checks to)) (λ us. fit_parameters g us ≡ true) vs
          (call_args p typed f here refl (starting h v (Chosen [])) called.steady g es.items (n + receiver_checks to) (subst (λ u. call_ok p f u es.items ≡ true) called.there o.0)) called.args_gave

      -- What the callee may do, and the store of its value behind it.
      module _ (k : Heap) (r : Value) (ans : Answers p x f (calling q h g vs pl) h k r) (steady : Steady p f k v) (u : ValueAndState) (there : StatedAt hid u.state k v) (is : Stands l T e u.value r) where
        abbrev g0 : Progress
        g0 = starting k v (Chosen [])

        -- a place of the run behind the store, where it is steady
        abbrev Received : Option Place → (ℕ → Bool) → Type 0
        Received w hid' = (h' : Heap) × (v' : List Value) × ActsTo p x f (local_run.receives p x f line pl c r last k v) h' v' × (Steady p f h' v' → StatedAt hid' (receive p f a w c u).gives h' v')

        pub received_so : (w : Option Place) (pl' : Option act.Place) (hid' : ℕ → Bool) → pl ≡ pl' → PlaceIs w pl' → Less hid hid' w → All (facts (receive p f a w c u).path) → Received w hid'
        received_so None None hid' same place less all = (k, v, subst (λ z. ActsTo p x f (local_run.receives p x f line z c r last k v) k v) (sym same) (g0, refl, refl, refl), (λ s. lessen l typed T f a here refl refl refl hid hid' less u.state k v e there))
        received_so None (Some z) hid' same place less all = absurd place
        received_so (Some z) None hid' same place less all = absurd place
        received_so (Some (InLocal i)) (Some (act.InLocal j)) hid' same place less all =
            let two = facts_apart (Unit {0}) (Knows l T e) (walk.convert_to p a c u.value).path Done tt all in
            let z = call_parts.convert_back p good typed contracts number f fis n0 h0 args good0 fit e spotted line last c u.value r is two.0 in
            let done = record g0 { locals = slice_set v i r } in (
              k,
              slice_set v i r,
              subst (λ z. ActsTo p x f (local_run.receives p x f line z c r last k v) k (slice_set v i r)) (sym (same ∙ ap (λ j. Some (act.InLocal j)) (sym place)))
                  (done, after_gave (act.convert_to here c r last) (λ y. act.store p here (act.InLocal i) y (last + conversion_checks c) g0) r z.0, refl, refl),
              (λ s. set_stated l typed T f a here refl refl refl hid u.state g0 steady hid' i less e u.state (walk.convert_to p a c u.value).gives k v r there z.1),
            )
        received_so (Some (InLocal i)) (Some (act.InField b d)) hid' same place less all = absurd place
        received_so (Some (InField o d)) (Some (act.InLocal j)) hid' same place less all = absurd place
        received_so (Some (InField o d)) (Some (act.InField b d')) hid' same place less all =
            let w = (walk.convert_to p a c u.value).gives in
            let path = walk.store p a (InField o d) w u.state in
            let two = facts_apart (Unit {0}) (Knows l T e) (walk.convert_to p a c u.value).path path.path tt all in
            let z = call_parts.convert_back p good typed contracts number f fis n0 h0 args good0 fit e spotted line last c u.value r is two.0 in
            let m = last + conversion_checks c in
            let target = act.InField b d in
            let at_target : pl ≡ Some target = same ∙ ap (λ j. Some (act.InField b j)) (sym place.1) in
            let told = store_tested l typed T f a here refl refl refl hid e u.state g0 steady there (InField o d) target w (place.0, refl) in
            let gave = ends_all (store_tests p here target g0) m (stored_progress target r g0) (act.store p here target r m g0) (ends_store p here target r m g0) (known_tested l T e path.path (store_tests p here target g0) told (parts.all_known p good typed contracts number f fis n0 h0 args good0 fit e spotted (facts path.path) two.1)) in
            let done = stored_progress target r g0 in
            let stored = given.field_goes p good typed contracts number f fis n0 h0 args good0 fit hid line to c q es n h v g vs pl k r r b d m o w u.state done.heap done.locals called ans at_target z.0 (done, gave, refl, refl) e place.0 z.1 (plainly.matches_of l typed T f x fis refl refl a [] line hid e u.state k v steady there) in
            let acts : ActsTo p x f (local_run.receives p x f line (Some target) c r last k v) done.heap done.locals = (done, after_gave (act.convert_to here c r last) (λ y. act.store p here target y m g0) r z.0 ∙ gave, refl, refl) in (
              done.heap,
              done.locals,
              subst (λ z. ActsTo p x f (local_run.receives p x f line z c r last k v) done.heap done.locals) (sym at_target) acts,
              (λ s. lessen l typed T f a here refl refl refl hid hid' less path.gives done.heap done.locals e (plainly.stated_of l typed T f x fis refl refl a [] line hid e path.gives done.heap done.locals s stored.1)),
            )

        pub received_fails : (label : ℕ) (w : Option Place) (pl' : Option act.Place) → pl ≡ pl' → PlaceIs w pl' → (w ≡ None → c ≡ None) → FailsOn label last (receive p f a w c u) → FailsAt label (local_run.receives p x f line pl c r last k v)
        received_fails label None None same place only y =
            ⊎_elim
            (λ z. absurd (subst (λ d. FailsIn (Unit {0}) (Knows l T e) label last (walk.convert_to p a d u.value).path tt) (only refl) z))
            (λ z. absurd z.1)
            (fails_joined (Unit {0}) (Knows l T e) label last (walk.convert_to p a c u.value).path Done tt y)
        received_fails label None (Some z) same place only y = absurd place
        received_fails label (Some z) None same place only y = absurd place
        received_fails label (Some (InLocal i)) (Some (act.InLocal j)) same place only y =
            ⊎_elim
            (λ z. subst (λ t. FailsAt label (local_run.receives p x f line t c r last k v)) (sym same)
            (fails_front label (act.convert_to here c r last) (λ y. act.store p here (act.InLocal j) y (last + conversion_checks c) g0) (call_parts.convert_fails p good typed contracts number f fis n0 h0 args good0 fit e spotted label line last c u.value r is z)))
            (λ z. absurd z.1)
            (fails_joined (Unit {0}) (Knows l T e) label last (walk.convert_to p a c u.value).path Done tt y)
        received_fails label (Some (InLocal i)) (Some (act.InField b d)) same place only y = absurd place
        received_fails label (Some (InField o d)) (Some (act.InLocal j)) same place only y = absurd place
        received_fails label (Some (InField o d)) (Some (act.InField b d')) same place only y =
            let w = (walk.convert_to p a c u.value).gives in
            let path = walk.store p a (InField o d) w u.state in
            let m = last + conversion_checks c in
            let target = act.InField b d in
            let at_target : pl ≡ Some target = same ∙ ap (λ j. Some (act.InField b j)) (sym place.1) in
            let told = store_tested l typed T f a here refl refl refl hid e u.state g0 steady there (InField o d) target w (place.0, refl) in
            let store = λ (y : Value). act.store p here target y m g0 in
            subst (λ t. FailsAt label (local_run.receives p x f line t c r last k v)) (sym at_target)
            (⊎_elim
            (λ z. fails_front label (act.convert_to here c r last) store (call_parts.convert_fails p good typed contracts number f fis n0 h0 args good0 fit e spotted label line last c u.value r is z))
            (λ z.
            let gave = call_parts.convert_back p good typed contracts number f fis n0 h0 args good0 fit e spotted line last c u.value r is z.0 in
            let at_store = at_number (Unit {0}) (Knows l T e) tt label (last + checks (walk.convert_to p a c u.value).path) m path.path (ap (λ i. last + i) (call_parts.convert_size p good typed contracts number f fis n0 h0 args good0 fit e spotted c u.value)) z.1 in
            fails_behind label (act.convert_to here c r last) store r gave.0
            (ends_false (store_tests p here target g0) m label (stored_progress target r g0) (act.store p here target r m g0) (ends_store p here target r m g0)
            (unknown_tested l T e label m path.path (store_tests p here target g0) told (parts.fails_known p good typed contracts number f fis n0 h0 args good0 fit e spotted label m path.path at_store))))
            (fails_joined (Unit {0}) (Knows l T e) label last (walk.convert_to p a c u.value).path path.path tt y))

      -- The checks of the contract, and what the callee may do.
      module _ (st : State) (m : Matches hid st h v) (ws : List Symbolic) (stand : AllStand l T e ws vs) (w : Option Place) (place : PlaceIs w pl) where
        abbrev needs : List Formula
        needs = clauses p a g.requires_.items (term_call me st.heap ws)

        abbrev items : List Formula
        items = items_of p a g.writes.items (term_call me st.heap ws)

        abbrev may : List Formula
        may = map (λ o. writable p a o) items

        abbrev effect : Execution State
        effect = call_effect p f a g st.heap items ws w c st

        abbrev st2 : State
        st2 = new_heap st

        abbrev u : ValueAndState
        u = (any_result p f a g.result st2).gives

        abbrev promises : List Formula
        promises = clauses p a g.ensures_.items (term_return st.heap ws u.state.heap u.value)

        abbrev first : ℕ
        first = n + receiver_checks to + all_checks es.items

        abbrev needs_tests : List Tested
        needs_tests = clause_tests p g.requires_.items (call_scene T h vs)

        abbrev may_tests : List Tested
        may_tests = item_tests p (may_write here) g.writes.items (call_scene T h vs)

        needs_are : EachIs l e.env needs (map (λ (z : Tested). z.holds) needs_tests)
        needs_are = callees.requires_tested p T e good contracts q g called.there st.heap h m.heap ws vs stand arguments_fit

        may_are : EachIs l e.env may (map (λ (z : Tested). z.holds) may_tests)
        may_are = callees.writes_tested p T e good contracts q g called.there st.heap h m.heap ws vs stand arguments_fit a x refl line spotted

        abbrev AllPass : List Tested → Type 0
        AllPass ts = every (λ b. b) (map (λ (z : Tested). z.holds) ts) ≡ true

        known_gave : AllPass needs_tests → AllPass may_tests → (local_run.call_known p x f (Some g) q here pl vs first h).end ≡ Gave (calling q h g vs pl)
        known_gave i j = specs_pass here Requires needs_tests first (check_specs here may_tests (first + length g.requires_.items) Writes (GivesOut (calling q h g vs pl))) i ∙ specs_pass here Writes may_tests (first + length g.requires_.items) (GivesOut (calling q h g vs pl)) j

        abbrev behind_args : Option act.Place → List Value → Outcome Calling
        behind_args z us = local_run.call_known p x f (slice_get p.functions.items q) q here z us first h

        calls_gave : AllPass needs_tests → AllPass may_tests → (local_run.calls p x f line to q es.items n h v).end ≡ Gave (calling q h g vs pl)
        calls_gave i j =
            after_gave (machine_turn.received p to here n (starting h v (Chosen []))) (λ z. outcome_after (eval_all p here h v es.items (n + receiver_checks to)) (λ us. behind_args z us)) pl called.place_gave
            ∙ after_gave (eval_all p here h v es.items (n + receiver_checks to)) (λ us. behind_args pl us) vs called.args_gave
            ∙ ap (λ o. (local_run.call_known p x f o q here pl vs first h).end) called.there ∙ known_gave i j

        calls_fail : (label : ℕ) → FailsAt label (local_run.call_known p x f (Some g) q here pl vs first h) → FailsAt label (local_run.calls p x f line to q es.items n h v)
        calls_fail label y =
            fails_behind label (machine_turn.received p to here n (starting h v (Chosen []))) (λ z. outcome_after (eval_all p here h v es.items (n + receiver_checks to)) (λ us. behind_args z us)) pl called.place_gave
            (fails_behind label (eval_all p here h v es.items (n + receiver_checks to)) (λ us. behind_args pl us) vs called.args_gave
            (subst (λ o. FailsAt label (local_run.call_known p x f o q here pl vs first h)) (sym called.there) y))

        -- a heap and a value that the contract allows
        record Answered : Type 0 where
          after_heap : Heap
          value : Value
          answers : Answers p x f (calling q h g vs pl) h after_heap value
          steady : Steady p f after_heap v
          there : StatedAt hid u.state after_heap v
          stands : Stands l T e u.value value

        answered : Known l T e (node kinds.Frame (me ∷ st.heap ∷ heap st.heaps ∷ st.heap ∷ items)) → All (facts (any_result p f a g.result st2).path) → All promises → Answered
        answered framed valued promised =
            let k = heap_of l T e st.heaps in
            let b = call_parts.result_back p good typed contracts number f fis n0 h0 args good0 fit e spotted g.result st2 valued in
            let frame = callees.frame_of p T e good contracts q g called.there st.heap h m.heap ws vs stand arguments_fit (heap st.heaps) k.0 k.1 framed in
            let holds = callees.ensures_hold p T e good contracts q g called.there st.heap h m.heap ws vs stand arguments_fit (heap st.heaps) k.0 k.1 u.value b.value b.of_its_type b.stands (subst (λ y. All (clauses p a g.ensures_.items (term_return st.heap ws y u.value))) b.heap promised) in
            let s2 : Steady p f k.0 v = record { heap = frame.after.well_formed; types = m.steady.types; locals = m.steady.locals } in
            let m2 : Matches hid st2 k.0 v = record { many = m.many; heap = k.1; locals = m.locals; steady = s2 } in
            let there2 = plainly.stated_of l typed T f x fis refl refl a [] line hid e st2 k.0 v s2 (parts.forth p good typed contracts number f fis n0 h0 args good0 fit e spotted hid st2 k.0 v m2) in
            record {
              after_heap = k.0;
              value = b.value;
              answers = record { frame = frame; range = b.of_its_type; ensures_ = holds };
              steady = s2;
              there = record { spot = there2.spot; many = ap length b.locals ∙ there2.many; heap = subst (λ y. HeapIs l T e y k.0) (sym b.heap) there2.heap; locals = subst (λ us. ShownAt l T hid e 0 us (local v)) (sym b.locals) there2.locals };
              stands = b.stands;
            }

        gives_received : (call p f a (Some g) ws w c st).gives ≡ (receive p f a w c u).gives
        gives_received = check_gives needs (check_each may effect) ∙ check_gives may effect ∙ gives_facts promises (receive p f a w c u)

        abbrev Reached : Heap → (ℕ → Bool) → State → Type 0
        Reached hb hid' s = (h' : Heap) × (v' : List Value) × ReachesBy p x f (Lazily p x.me) (Call line to c q es) n hb v h' v' × Matches hid' s h' v'

        -- where the facts of the call are known, a run comes behind it
        pub known_goes : (hb : Heap) (hid' : ℕ → Bool) → Steady p f hb v → Rely p T hb h → Less hid hid' w → All (facts (call p f a (Some g) ws w c st).path) → Reached hb hid' (call p f a (Some g) ws w c st).gives
        known_goes hb hid' sb moves less all =
            let z0 = checks_apart (Unit {0}) (Knows l T e) tt needs (check_each may effect) all in
            let z1 = checks_apart (Unit {0}) (Knows l T e) tt may effect z0.1 in
            let z2 = facts_apart (Unit {0}) (Knows l T e) (any_result p f a g.result st2).path (all_facts promises (receive p f a w c u)).path tt z1.1.1 in
            let z3 = known_apart (Unit {0}) (Knows l T e) tt promises (receive p f a w c u) z2.1 in
            let b = answered z1.1.0 z2.0 z3.0 in
            let r = received_so b.after_heap b.value b.answers b.steady u b.there b.stands w pl hid' refl place less z3.1 in
            let reaches : ReachesBy p x f (Lazily p x.me) (Call line to c q es) n hb v r.0 r.1 =
            (h, calling q h g vs pl, b.after_heap, b.value, moves, calls_gave (each_holds l T e needs (map (λ (z : Tested). z.holds) needs_tests) needs_are z0.0) (each_holds l T e may (map (λ (z : Tested). z.holds) may_tests) may_are z1.0), b.answers, r.2) in
            let s = given.call_steady p good typed contracts number f fis n0 h0 args good0 fit hid line to c q es n hb r.0 v r.1 called.fits sb reaches in
            subst (λ t. Reached hb hid' t) (sym gives_received)
            (r.0, r.1, reaches, parts.back p good typed contracts number f fis n0 h0 args good0 fit e spotted hid' (receive p f a w c u).gives r.0 r.1 (plainly.matches_of l typed T f x fis refl refl a [] line hid' e (receive p f a w c u).gives r.0 r.1 s (r.3 s)) s)

        abbrev Failing : ℕ → Type 0
        Failing label = FailsAt label (local_run.calls p x f line to q es.items n h v)
            ⊎ ((y : Calling) × (k : Heap) × (r : Value) × ((local_run.calls p x f line to q es.items n h v).end ≡ Gave y) × Answers p x f y h k r × FailsAt label (local_run.receives p x f line y.place c r last k v))

        behind_checks : (label : ℕ) → AllPass needs_tests → AllPass may_tests → (w ≡ None → c ≡ None) → FailsOn label (first + length g.requires_.items + length may) effect → Failing label
        behind_checks label i j only y =
            let any = any_result p f a g.result st2 in
            let number_ = first + length g.requires_.items + length may in
            let none = any_result_size p f a g.result st2 in
            ⊎_elim
            (λ z. absurd (none_fails (Unit {0}) (Knows l T e) tt label number_ any.path none z))
            (λ z.
            let k = fails_known (Unit {0}) (Knows l T e) tt label (number_ + checks any.path) promises (receive p f a w c u) z.1 in
            let b = answered y.0 z.0 k.0 in
            let gl : length may ≡ length g.writes.items = length-map items (λ o. writable p a o) ∙ length-map g.writes.items (λ (d : Spec). term (translate p d (term_call me st.heap ws))) in
            let cl : function_checks (slice_get p.functions.items q) ≡ length g.requires_.items + length g.writes.items = ap function_checks called.there in
            let at_last : number_ + checks any.path ≡ last = omega (arith, none, gl, cl) in
            inr (calling q h g vs pl, b.after_heap, b.value, calls_gave i j, b.answers, received_fails b.after_heap b.value b.answers b.steady u b.there b.stands label w pl refl place only (at_number (Unit {0}) (Knows l T e) tt label (number_ + checks any.path) last (receive p f a w c u).path at_last k.1)))
            (fails_joined (Unit {0}) (Knows l T e) label number_ any.path (all_facts promises (receive p f a w c u)).path tt y.1)

        -- where a check of the call isn't known true, a run fails it
        pub known_fails : (label : ℕ) → (w ≡ None → c ≡ None) → FailsOn label first (call p f a (Some g) ws w c st) → Failing label
        known_fails label only y =
            let given_ = GivesOut (calling q h g vs pl) in
            let second = first + length g.requires_.items in
            let fl : length needs ≡ length g.requires_.items = length-map g.requires_.items (λ (d : Clause). formula p d.spec (term_call me st.heap ws)) in
            ⊎_elim
            (λ z. inl (calls_fail label z))
            (λ z.
            ⊎_elim
            (λ i. inl (calls_fail label (i.0, i.1, specs_pass here Requires needs_tests first (check_specs here may_tests second Writes given_) z.0 ∙ i.2)))
            (λ i. behind_checks label z.0 i.0 only i.1)
            (specs_apart l T e label here Writes may may_tests second given_ effect may_are (at_number (Unit {0}) (Knows l T e) tt label (first + length needs) second (check_each may effect).path (ap (λ j. first + j) fl) z.1)))
            (specs_apart l T e label here Requires needs needs_tests first (check_specs here may_tests second Writes given_) (check_each may effect) needs_are y)

    -- The statement.

    plain_only : (to : Receiver) (c : Option CType) (st : State) → is_conversion_received to c ≡ true → (receiving_place p f a to st).gives ≡ None → c ≡ None
    plain_only Nobody None st i e = refl
    plain_only Nobody (Some d) st i e = absurd (true≢false (sym i))
    plain_only (NewVariable j) c st i e = absurd (cc)
    plain_only (Left t) c st i e = absurd (cc)

    -- others went on, so that the heap is this one
    pub record Moved (hid : ℕ → Bool) (st : State) (h : Heap) (v : List Value) : Type 0 where
      pub after_heap : Heap
      pub moves : Rely p T h after_heap
      pub matches : Matches hid (new_heap st) after_heap v

    pub moved : (hid : ℕ → Bool) (st : State) (h : Heap) (v : List Value) → Matches hid st h v → Known l T e (node kinds.Rely (me ∷ st.heap ∷ heap st.heaps ∷ [])) → Moved hid st h v
    moved hid st h v m known =
        let k = heap_of l T e st.heaps in
        let rely = rely_of l T e st.heap (heap st.heaps) h k.0 m.heap k.1 known in
        record { after_heap = k.0; moves = rely; matches = record { many = m.many; heap = k.1; locals = m.locals; steady = moved_steady p f T true false h k.0 v m.steady rely } }

    module _ (hid : ℕ → Bool) (line : ℕ) (to : Receiver) (c : Option CType) (q : ℕ) (es : Vec Expr Global) (n : ℕ) (st : State) (h : Heap) (v : List Value) (fits : FitsOther p number f hid (Call line to c q es)) (m : Matches hid st h v) where
      abbrev hid' : ℕ → Bool
      hid' = after_stmt (Call line to c q es) hid

      abbrev st1 : State
      st1 = new_heap st

      abbrev plw : Option Place
      plw = (receiving_place p f a to st1).gives

      abbrev ws : List Symbolic
      ws = (all_symbolic p a st1 es.items).gives

      abbrev whole : Option FunctionInfo → Execution State
      whole o = call p f a o ws plw c st1

      no_callee : slice_get p.functions.items q ≡ None → ⊥
      no_callee none =
          let o = both_true (call_ok p f (slice_get p.functions.items q) es.items) (receiver_ok p f to (result_values p f (slice_get p.functions.items q) c)) fits.typed in
          true≢false (sym o.0 ∙ ap (λ u. call_ok p f u es.items) none)

      abbrev Reaches : State → Type 0
      Reaches s = (h' : Heap) × (v' : List Value) × ReachesBy p x f (Lazily p x.me) (Call line to c q es) n h v h' v' × Matches hid' s h' v'

      pub call_back : All (facts (stmt p f a (Call line to c q es) st).path) → Reaches (stmt p f a (Call line to c q es) st).gives
      call_back all =
          let z = moved hid st h v m all.0 in
          let all_fit = fits_call p number f hid line to c q es fits in
          let rest = after (all_symbolic p a st1 es.items) (λ us. call p f a (slice_get p.functions.items q) us plw c st1) in
          let two = facts_apart (Unit {0}) (Knows l T e) (receiving_place p f a to st1).path rest.path tt all.1 in
          let three = facts_apart (Unit {0}) (Knows l T e) (all_symbolic p a st1 es.items).path (whole (slice_get p.functions.items q)).path tt two.1 in
          let pl = call_parts.place_back p good typed contracts number f fis n0 h0 args good0 fit e spotted hid line n to st1 z.after_heap v all_fit.1 z.matches two.0 in
          let ar = call_parts.args_back p good typed contracts number f fis n0 h0 args good0 fit e spotted hid line (n + receiver_checks to) es.items st1 z.after_heap v all_fit.0 z.matches three.0 in
          by_callee z pl.0 ar.0 pl.1 ar.1 pl.2 ar.2 (slice_get p.functions.items q) refl three.1
        where
          by_callee : (z : Moved hid st h v) (pl : Option act.Place) (vs : List Value) → (machine_turn.received p to (spot x [] line) n (starting z.after_heap v (Chosen []))).end ≡ Gave pl → (eval_all p (spot x [] line) z.after_heap v es.items (n + receiver_checks to)).end ≡ Gave vs → PlaceIs plw pl → AllStand l T e ws vs
              → (o : Option FunctionInfo) → slice_get p.functions.items q ≡ o → All (facts (whole o).path) → Reaches (whole o).gives
          by_callee z pl vs pg ag place stand None is all = absurd (no_callee is)
          by_callee z pl vs pg ag place stand (Some g) is all =
              known_goes hid line to c q es n z.after_heap v g vs pl (record { fits = fits; there = is; steady = z.matches.steady; args_gave = ag; place_gave = pg }) st1 z.matches ws stand plw place h hid' m.steady z.moves (call_parts.less_behind p good typed contracts number f fis n0 h0 args good0 fit e spotted hid line to c q es st1) all

      pub call_fails : (label : ℕ) → FailsOn label n (stmt p f a (Call line to c q es) st) → FailsBy p x f (Lazily p x.me) label (Call line to c q es) n h v
      call_fails label y =
          let z = moved hid st h v m y.0 in
          let here = spot x [] line in
          let all_fit = fits_call p number f hid line to c q es fits in
          let rest = after (all_symbolic p a st1 es.items) (λ us. call p f a (slice_get p.functions.items q) us plw c st1) in
          let n1 = n + receiver_checks to in
          let n2 = n1 + all_checks es.items in
          let start = starting z.after_heap v (Chosen []) in
          let behind = λ (pl : Option act.Place) (us : List Value). local_run.call_known p x f (slice_get p.functions.items q) q here pl us n2 z.after_heap in
          let behind_place = λ (pl : Option act.Place). outcome_after (eval_all p here z.after_heap v es.items n1) (behind pl) in (
            z.after_heap,
            z.moves,
            ⊎_elim
                (λ i. inl (fails_front label (machine_turn.received p to here n start) behind_place (call_parts.place_fails p good typed contracts number f fis n0 h0 args good0 fit e spotted label hid line n to st1 z.after_heap v all_fit.1 z.matches i)))
                (λ i.
                let pl = call_parts.place_back p good typed contracts number f fis n0 h0 args good0 fit e spotted hid line n to st1 z.after_heap v all_fit.1 z.matches i.0 in
                let y1 = at_number (Unit {0}) (Knows l T e) tt label (n + checks (receiving_place p f a to st1).path) n1 rest.path (ap (λ j. n + j) (received_size p f a to st1)) i.1 in
                ⊎_elim
                (λ j. inl (fails_behind label (machine_turn.received p to here n start) behind_place pl.0 pl.1
                (fails_front label (eval_all p here z.after_heap v es.items n1) (behind pl.0) (call_parts.args_fail p good typed contracts number f fis n0 h0 args good0 fit e spotted label hid line n1 es.items st1 z.after_heap v all_fit.0 z.matches j))))
                (λ j.
                let ar = call_parts.args_back p good typed contracts number f fis n0 h0 args good0 fit e spotted hid line n1 es.items st1 z.after_heap v all_fit.0 z.matches j.0 in
                let y2 = at_number (Unit {0}) (Knows l T e) tt label (n1 + checks (all_symbolic p a st1 es.items).path) n2 (whole (slice_get p.functions.items q)).path (ap (λ j. n1 + j) (all_symbolic_size p a st1 es.items)) j.1 in
                by_callee z pl.0 ar.0 pl.1 ar.1 pl.2 ar.2 (slice_get p.functions.items q) refl y2)
                (fails_joined (Unit {0}) (Knows l T e) label n1 (all_symbolic p a st1 es.items).path (whole (slice_get p.functions.items q)).path tt y1))
                (fails_joined (Unit {0}) (Knows l T e) label n (receiving_place p f a to st1).path rest.path tt y.1),
          )
        where
          by_callee : (z : Moved hid st h v) (pl : Option act.Place) (vs : List Value) → (machine_turn.received p to (spot x [] line) n (starting z.after_heap v (Chosen []))).end ≡ Gave pl → (eval_all p (spot x [] line) z.after_heap v es.items (n + receiver_checks to)).end ≡ Gave vs → PlaceIs plw pl → AllStand l T e ws vs
              → (o : Option FunctionInfo) → slice_get p.functions.items q ≡ o → FailsOn label (n + receiver_checks to + all_checks es.items) (whole o)
              → FailsAt label (local_run.calls p x f line to q es.items n z.after_heap v)
              ⊎ ((y : Calling) × (k : Heap) × (r : Value) × ((local_run.calls p x f line to q es.items n z.after_heap v).end ≡ Gave y) × Answers p x f y z.after_heap k r × FailsAt label (local_run.receives p x f line y.place c r (n + call_checks p to q es.items) k v))
          by_callee z pl vs pg ag place stand None is y = absurd (no_callee is)
          by_callee z pl vs pg ag place stand (Some g) is y =
              known_fails hid line to c q es n z.after_heap v g vs pl (record { fits = fits; there = is; steady = z.matches.steady; args_gave = ag; place_gave = pg }) st1 z.matches ws stand plw place label (plain_only to c st1 fits.plain) y
