-- From an environment to a run, of the start of a thread: its arguments, the items that pass to the new thread, the thread, and the clauses that it must meet.
use Rattle.std.proofs.Common.{◌≡◌, ℕ, ◌+◌, ⊎_elim, Bool, true, false, not, ◌&&◌, ◌||◌, if◌then◌else◌, List, [], ◌∷◌, ◌++◌, map, length, slice_get, Option, Some, None, Vec, Global, pos, refl, ap, sym, ◌∙◌, subst, true≢false}
use Rattle.std.proofs.lemmas.Bool.{eqb-true}
use Rattle.std.proofs.lemmas.List.{length-map}
use Rattle.object_types.specs.declared.references.Ref.{Ref}
use Rattle.object_types.specs.declared.values.Value.{Value}
use Rattle.object_types.specs.declared.values.Value.TheVariants.{Ref as Refers}
use Rattle.object_types.specs.References.{same_ref, is_thread, thread}
use Rattle.object_types.specs.Values.{referent}
use Rattle.object_types.specs.Sets.{every, some, is_in}
use Rattle.object_types.specs.Heap.{Heap, put, hand_over, wrapped, is_idle}
use Rattle.method.specs.declared.program.Action.{Action}
use Rattle.method.specs.declared.program.Action.TheVariants.{SpawnThread}
use Rattle.method.specs.declared.program.CheckKind.TheVariants.{Spawn}
use Rattle.method.specs.declared.program.Expr.{Expr}
use Rattle.method.specs.declared.program.Spec.{Spec}
use Rattle.method.specs.declared.program.Stmt.TheVariants.{Do}
use Rattle.method.specs.declared.program.FunctionInfo.{FunctionInfo}
use Rattle.method.specs.declared.program.Program.{Program}
use Rattle.method.specs.Legal.{Good}
use Rattle.method.specs.SpecValue.{value}
use Rattle.method.specs.WellFormed.{IsHeapOf}
use Rattle.method.specs.Machine.{fit_parameters}
use Rattle.method.specs.Typing.{WellTyped, call_ok}
use Rattle.method.specs.Expressions.{Context, Spot as MachineSpot, Outcome, Gave, Unfit, Gives as GivesOut, Tested, after as outcome_after, all_checks, call_scene, clause_tests, eval_all, item_tests, may_write, weighed}
use Rattle.method.specs.Actions as act
use Rattle.method.specs.Actions.{Chosen, Progress, Took, callee, spot, starting, take_thread}
use Rattle.method.specs.LocalRuns.{FailsAt}
use Rattle.method.proofs.Global.{and_both, both_and, same_ref_is}
use Rattle.machine_laws.proofs.Acts.{call_args}
use Rattle.machine_laws.proofs.Heaps.{in_more, in_none}
use Rattle.machine_laws.proofs.Objects.{passed_well_formed}
use Rattle.terms.specs.declared.term.Kind.TheVariants as kinds
use Rattle.terms.specs.Formula.{Formula}
use Rattle.term_meaning.specs.Meaning.{Language}
use Rattle.term_meaning.specs.RawHeaps.{raw}
use Rattle.term_meaning.specs.RawRelations.{IsIdle}
use Rattle.axiom_instances.proofs.Kit.{none, one, more, node_has, node_given, given_has}
use Rattle.axiom_instances.proofs.Facts.{Shown}
use Rattle.conditions.specs.Formulas.{node, nat, me, eq, and', not', typ, reference, set, owner_column}
use Rattle.conditions.specs.Symbolic.{Symbolic, term}
use Rattle.conditions.specs.Annotations.{translate}
use Rattle.conditions.specs.Paths.{Execution, Gives, facts, checks, check_each, all_facts}
use Rattle.conditions.specs.Code.{Spot, State, all_symbolic, new_reference, with_heap, writable, call_scene as term_call}
use Rattle.conditions.specs.Code as codes
use Rattle.conditions.specs.Actions as walk
use Rattle.conditions.specs.Actions.{clauses, items_of}
use Rattle.conditions.specs.Ways.{AllHold, FailsIn}
use Rattle.conditions.proofs.Ways.{facts_apart, fails_joined}
use Rattle.conditions.proofs.Tests.{after_gave}
use Rattle.conditions.proofs.Hiding.{after_stmt}
use Rattle.conditions.proofs.Joins.{check_gives}
use Rattle.condition_walks.proofs.Fitting.{FitsAction}
use Rattle.condition_walks.proofs.Kept.{gives_facts}
use Rattle.condition_walks.proofs.Scoping.{known_seen}
use Rattle.condition_walks.proofs.Sizes.{all_symbolic_size}
use Rattle.condition_meaning.specs.Annotated.{Annotated}
use Rattle.condition_meaning.specs.FunctionWords.{ContractFits}
use Rattle.condition_meaning.proofs.Columns.{AreRefs}
use Rattle.condition_meaning.proofs.Environments.{Environment, Has, HeapIs, has_me, is_and, is_eq, is_not}
use Rattle.condition_meaning.proofs.FunctionScenes.{EachIs}
use Rattle.action_conditions.proofs.Acts.{lessen}
use Rattle.action_conditions.proofs.NewValues.{is_typed}
use Rattle.action_conditions.proofs.Permissions.{may_write_is}
use Rattle.action_conditions.proofs.Places.{AllStand, Stated}
use Rattle.action_conditions.proofs.Plain as plainly
use Rattle.action_conditions.proofs.Stores.{on_gave}
use Rattle.action_conditions.proofs.Updates.{set_owner, same_columns, hand_more, hand_none}
use Rattle.action_conditions.proofs.Words.{is_wrapped}
use Rattle.converse_law.proofs.Parts as parts
use Rattle.converse_law.proofs.CallFits.{FitsAll, fits_args}
use Rattle.converse_law.proofs.CallParts as call_parts
use Rattle.converse_law.proofs.Callees as callees
use Rattle.converse_law.proofs.Paths.{Knows, checks_apart, known_apart, fails_known, at_number, fails_front, fails_behind, none_declared, specs_pass, each_holds, specs_apart}

-- what holds of none of these holds of no one among them
none_of : (test : Ref → Bool) (qs : List Ref) → ((q : Ref) → test q ≡ true → ⊥) → some test qs ≡ false
none_of test [] out = refl
none_of test (q ∷ qs) out = by (none_of test qs out) (test q) refl
  where
    by : some test qs ≡ false → (b : Bool) → test q ≡ b → test q || some test qs ≡ false
    by rest true is = absurd (out q is)
    by rest false is = ap (λ b. b || some test qs) is ∙ rest

-- a thread that owns nothing, as its columns say
idle_of : (p : Program) (h : Heap) (r : Ref) → is_thread r ≡ true → IsIdle r (raw p h) → is_idle h r.serial ≡ true
idle_of p h r is idle = ap not (none_of (λ (o : Ref). same_ref (h.get o).owner (thread r.serial)) h.support (λ q same. idle q (ap Refers (same_ref_is (h.get q).owner (thread r.serial) same ∙ sym named))))
  where
    named : r ≡ thread r.serial
    named = ap (λ (n : ℕ). record r { ty = n }) (eqb-true r.ty 1 is)

module _ (p : Program) (good : Annotated p) (typed : WellTyped p) (contracts : (n : ℕ) (g : FunctionInfo) → slice_get p.functions.items n ≡ Some g → ContractFits p g)
    (number : ℕ) (f : FunctionInfo) (fis : slice_get p.functions.items number ≡ Some f) (n0 : ℕ) (h0 : Heap) (args : List Value) (good0 : Good p h0) (fit : fit_parameters f args ≡ true)
    (e : Environment (parts.l p good typed contracts number f fis n0 h0 args good0 fit) (parts.T p good typed contracts number f fis n0 h0 args good0 fit)) (spotted : parts.Spotted p good typed contracts number f fis n0 h0 args good0 fit e)
  where
    abbrev l : Language
    l = parts.l p good typed contracts number f fis n0 h0 args good0 fit

    abbrev T : Ref
    T = parts.T p good typed contracts number f fis n0 h0 args good0 fit

    abbrev x : Context
    x = parts.x p good typed contracts number f fis n0 h0 args good0 fit

    abbrev a : Spot
    a = parts.a p good typed contracts number f fis n0 h0 args good0 fit

    abbrev Matches : (ℕ → Bool) → State → Heap → List Value → Type 0
    Matches hid st h v = parts.Matches p good typed contracts number f fis n0 h0 args good0 fit e spotted hid tt st h v

    abbrev All : List Formula → Type 0
    All = AllHold (Unit {0}) (Knows l T e) tt

    abbrev FailsOn : ℕ → ℕ → Execution State → Type 0
    FailsOn label n t = FailsIn (Unit {0}) (Knows l T e) label n t.path tt

    -- whether each test holds
    abbrev tests_of : List Tested → List Bool
    tests_of = map (λ (z : Tested). z.holds)

    abbrev AllPass : List Tested → Type 0
    AllPass ts = every (λ b. b) (tests_of ts) ≡ true

    -- a thread that a term stands for, and that may be taken
    record NewThread (h : Heap) (u : Formula) : Type 0 where
      which : Ref
      has : Has l T e u (Refers which)
      is : is_thread which ≡ true
      other : not (same_ref which T) ≡ true
      idle : is_idle h which.serial ≡ true

    -- objects that pass to it
    transfer_is : (u : Formula) (r : Ref) → Has l T e u (Refers r) → (os : List Formula) (rs : List Ref) → AreRefs l e.env os rs → (y : Formula) (k : Heap) → HeapIs l T e y k → HeapIs l T e (walk.transfer os u y) (hand_over k rs r)
    transfer_is u r has [] [] are y k there = same_columns l T e y k (hand_over k [] r) (hand_none p k r) there
    transfer_is u r has [] (q ∷ qs) are y k there = absurd are
    transfer_is u r has (o ∷ os) [] are y k there = absurd are
    transfer_is u r has (o ∷ os) (q ∷ qs) are y k there =
        let y1 = set owner_column y (o ∷ []) u in
        let k1 = put k q (record (k.get q) { owner = r }) in
        same_columns l T e (walk.transfer os u y1) (hand_over k1 qs r) (hand_over k (q ∷ qs) r) (hand_more p k q qs r) (transfer_is u r has os qs are.1 y1 k1 (set_owner l T e y k o q there are.0 u r has))

    module _ (hid : ℕ → Bool) (line n q : ℕ) (es : Vec Expr Global) (st : State) (h : Heap) (v : List Value) (fits : FitsAction p number f hid (SpawnThread q es)) (m : Matches hid st h v) where
      abbrev c : Action
      c = SpawnThread q es

      abbrev here : MachineSpot
      here = spot x [] line

      abbrev hid' : ℕ → Bool
      hid' = after_stmt (Do line c) hid

      abbrev n1 : ℕ
      n1 = n + all_checks es.items

      -- the term of the new thread
      abbrev u : Formula
      u = reference st.references

      abbrev symbols : Execution (List Symbolic)
      symbols = all_symbolic p a st es.items

      abbrev words : List Symbolic
      words = symbols.gives

      abbrev path : Option FunctionInfo → Execution State
      path o = walk.spawn p a o words st

      abbrev g0 : List Ref → Progress
      g0 news = starting h v (Chosen news)

      abbrev behind_args : List Ref → List Value → Outcome Progress
      behind_args news us = act.spawn p here q (slice_get p.functions.items q) us n1 (g0 news)

      abbrev machine : List Ref → Outcome Progress
      machine news = act.run_action p here c n (g0 news)

      -- a run of the start
      pub record Start : Type 0 where
        pub news : List Ref
        pub made : Progress
        pub gave : (machine news).end ≡ Gave made
        pub there : Stated l T hid' a here (walk.run_action p a f c st).gives made.heap made.locals e

      -- a run that fails the check with this number
      abbrev pub FailsFor : ℕ → Type 0
      FailsFor label = (news : List Ref) × FailsAt label (machine news)

      args_fit : FitsAll p number f hid es.items
      args_fit = fits_args p number f hid fits.is (slice_get p.functions.items q) es.items (known_seen p f fits.is hid fits.place) fits.scoped fits.typed

      -- A function of the table, whose arguments are worked out.
      module _ (g : FunctionInfo) (is : slice_get p.functions.items q ≡ Some g) (vs : List Value) (came : (eval_all p here h v es.items n).end ≡ Gave vs) (stand : AllStand l T e words vs) where
        fits_there : fit_parameters g vs ≡ true
        fits_there =
            on_gave (eval_all p here h v es.items n) (λ us. fit_parameters g us ≡ true) vs
            (call_args p typed f here refl (g0 []) m.steady g es.items n (subst (λ o. call_ok p f o es.items ≡ true) is fits.typed)) came

        abbrev items : List Formula
        items = items_of p a g.writes.items (term_call me st.heap words)

        abbrev objects : List Ref
        objects = act.items_of p g.writes.items (call_scene T h vs)

        abbrev may : List Formula
        may = map (λ o. and' (codes.wrapped st o) (writable p a o)) items

        abbrev tests_at : List Spec → List Tested
        tests_at ds = item_tests p (λ o. wrapped T h o && may_write here o) ds (call_scene T h vs)

        abbrev tests : List Tested
        tests = tests_at g.writes.items

        abbrev n2 : ℕ
        n2 = n1 + length objects

        -- the heap where the items are the new thread's
        abbrev next : Formula
        next = walk.transfer items u st.heap

        abbrev needs : List Formula
        needs = clauses p a g.requires_.items (term_call u next words)

        abbrev end : State
        end = with_heap (new_reference st).state next

        abbrev behind : Execution State
        behind = check_each needs (Gives end)

        abbrev thread_facts : List Formula
        thread_facts = eq (typ u) (nat 1) ∷ not' (eq u me) ∷ node kinds.Idle (u ∷ st.heap ∷ []) ∷ []

        abbrev rest : Execution State
        rest = all_facts thread_facts behind

        are : AreRefs l e.env items objects
        are = callees.items_are p T e good contracts q g is st.heap h m.heap words vs stand fits_there

        -- each item is wrapped and may be written, or not
        each_is : (ds : List Spec) → AreRefs l e.env (map (λ (d : Spec). term (translate p d (term_call me st.heap words))) ds) (act.items_of p ds (call_scene T h vs))
            → EachIs l e.env (map (λ o. and' (codes.wrapped st o) (writable p a o)) (map (λ (d : Spec). term (translate p d (term_call me st.heap words))) ds)) (tests_of (tests_at ds))
        each_is [] k = tt
        each_is (d ∷ ds) k =
            let o = term (translate p d (term_call me st.heap words)) in
            let r = referent (value p d (call_scene T h vs)) in
            (is_and l T e (codes.wrapped st o) (writable p a o) (wrapped T h r) (may_write here r) (is_wrapped l T e st.heap h m.heap.has o r k.0) (may_write_is l T here refl a e spotted o r k.0), each_is ds k.1)

        tests_are : EachIs l e.env may (tests_of tests)
        tests_are = each_is g.writes.items are

        -- where they all are, each object is wrapped
        each_mine : (ds : List Spec) (r : Ref) → AllPass (tests_at ds) → is_in r (act.items_of p ds (call_scene T h vs)) ≡ true → wrapped T h r ≡ true
        each_mine [] r pass i = absurd (cc (in_none r))
        each_mine (d ∷ ds) r pass i =
            let o = referent (value p d (call_scene T h vs)) in
            let b = and_both (wrapped T h o && may_write here o) (every (λ b. b) (tests_of (tests_at ds))) pass in
            by o b.0 (λ j. each_mine ds r b.1 j) (same_ref r o) refl (sym (in_more r o (act.items_of p ds (call_scene T h vs))) ∙ i)
          where
            by : (o : Ref) → wrapped T h o && may_write here o ≡ true → (is_in r (act.items_of p ds (call_scene T h vs)) ≡ true → wrapped T h r ≡ true) → (b : Bool) → same_ref r o ≡ b → b || is_in r (act.items_of p ds (call_scene T h vs)) ≡ true → wrapped T h r ≡ true
            by o first later true same or = subst (λ (w : Ref). wrapped T h w ≡ true) (sym (same_ref_is r o same)) (and_both (wrapped T h o) (may_write here o) first).0
            by o first later false same or = later or

        -- the thread that the facts of the path speak of
        thread_of : All thread_facts → NewThread h u
        thread_of k =
            let z = e.is_env.references (pos st.references) in
            let has : Has l T e u (Refers z.0) = node_has none (sym z.1) in
            let is_one : is_thread z.0 ≡ true = given_has (is_typed l T e u z.0 1 has) k.0 in
            let idle = node_given (more has (one m.heap.has)) k.1.1.0 in
            record {
              which = z.0;
              has = has;
              is = is_one;
              other = given_has (is_not l T e (eq u me) (same_ref z.0 T) (is_eq l T e u me (Refers z.0) (Refers T) has (has_me l T e))) k.1.0;
              idle = idle_of p h z.0 is_one (idle.1.yes idle.2);
            }

        -- It is taken, and the objects pass to it.
        module _ (w : NewThread h u) (pass : AllPass tests) where
          abbrev news : List Ref
          news = w.which ∷ []

          abbrev h1 : Heap
          h1 = hand_over h objects w.which

          abbrev took : Took
          took = record { which = w.which; supply = Chosen [] }

          abbrev with_thread : Took → Outcome Progress
          with_thread z = act.started p here q g vs objects z.which z.supply n2 (g0 news)

          abbrev needs_tests : List Tested
          needs_tests = clause_tests p g.requires_.items (call_scene w.which h1 vs)

          abbrev g1 : Progress
          g1 = record (g0 news) { heap = h1; supply = Chosen []; started = (g0 news).started ++ (callee p q g w.which h1 vs ∷ []) }

          abbrev last : Outcome Progress
          last = weighed (act.items_overflow p g.writes.items (call_scene w.which h1 vs)) (GivesOut g1)

          heap_is : HeapIs l T e next h1
          heap_is = transfer_is u w.which w.has items objects are st.heap h m.heap.has

          proper : IsHeapOf p h1
          proper = (passed_well_formed p typed f here refl (g0 []) m.steady objects w.which w.is (λ r i. each_mine g.writes.items r pass i)).heap_of

          needs_are : EachIs l e.env needs (tests_of needs_tests)
          needs_are =
              let there : Shown l e.env next h1 = record { has = heap_is; proper = proper } in
              callees.requires_of_thread p T e good contracts q g is next h1 there words vs stand fits_there u w.which w.has

          took_gave : (take_thread (Chosen news) T h).end ≡ Gave took
          took_gave =
              ap (λ (z : Bool). (if z then GivesOut {A = Took} took else Unfit).end)
              (both_and (is_thread w.which) (not (same_ref w.which T) && is_idle h w.which.serial) w.is (both_and (not (same_ref w.which T)) (is_idle h w.which.serial) w.other w.idle))

          reaches : (machine news).end ≡ (with_thread took).end
          reaches =
              after_gave (eval_all p here h v es.items n) (behind_args news) vs came
              ∙ ap (λ o. (act.spawn p here q o vs n1 (g0 news)).end) is
              ∙ specs_pass here Spawn tests n1 (outcome_after (take_thread (Chosen news) T h) with_thread) pass
              ∙ after_gave (take_thread (Chosen news) T h) with_thread took took_gave

          gives_end : (path (Some g)).gives ≡ end
          gives_end = check_gives may rest ∙ gives_facts thread_facts behind ∙ check_gives needs (Gives end)

          stated_end : Stated l T hid' a here end h1 v e
          stated_end =
              let k = plainly.stated_of l typed T f x fis refl refl a [] line hid e st h v m.steady (parts.forth p good typed contracts number f fis n0 h0 args good0 fit e spotted hid st h v m) in
              lessen l typed T f a here refl refl refl hid hid' (λ j b. none_declared (hid j) b) end h1 v e (record { spot = k.spot; many = k.many; heap = heap_is; locals = k.locals })

          start_of : All needs → Start
          start_of k = record {
            news = news;
            made = g1;
            gave = reaches ∙ specs_pass here Spawn needs_tests n2 last (each_holds l T e needs (tests_of needs_tests) needs_are k);
            there = subst (λ o. Stated l T hid' a here (path o).gives h1 v e) (sym is) (subst (λ s. Stated l T hid' a here s h1 v e) (sym gives_end) stated_end);
          }

        known_goes : All (facts (path (Some g)).path) → Start
        known_goes all =
            let z = checks_apart (Unit {0}) (Knows l T e) tt may rest all in
            let y = known_apart (Unit {0}) (Knows l T e) tt thread_facts behind z.1 in
            let k = checks_apart (Unit {0}) (Knows l T e) tt needs (Gives end) y.1 in
            start_of (thread_of y.0) (each_holds l T e may (tests_of tests) tests_are z.0) k.0

        known_fails : (label : ℕ) → FailsOn label n1 (path (Some g)) → FailsFor label
        known_fails label y =
            let none_taken : Outcome Progress = outcome_after (take_thread (Chosen []) T h) (λ z. act.started p here q g vs objects z.which z.supply n2 (g0 [])) in
            let many : length may ≡ length objects = length-map items (λ o. and' (codes.wrapped st o) (writable p a o)) ∙ length-map g.writes.items (λ (d : Spec). term (translate p d (term_call me st.heap words))) ∙ sym (length-map g.writes.items (λ (d : Spec). referent (value p d (call_scene T h vs)))) in
            ⊎_elim
            (λ i. ([], fails_behind label (eval_all p here h v es.items n) (behind_args []) vs came (subst (λ o. FailsAt label (act.spawn p here q o vs n1 (g0 []))) (sym is) i)))
            (λ i.
            let k = fails_known (Unit {0}) (Knows l T e) tt label (n1 + length may) thread_facts behind i.1 in
            let w = thread_of k.0 in
            ⊎_elim
            (λ j. (news w i.0, (j.0, j.1, reaches w i.0 ∙ j.2)))
            (λ j. absurd j.1)
            (specs_apart l T e label here Spawn needs (needs_tests w i.0) n2 (last w i.0) (Gives end) (needs_are w i.0) (at_number (Unit {0}) (Knows l T e) tt label (n1 + length may) n2 behind.path (ap (λ j. n1 + j) many) k.1)))
            (specs_apart l T e label here Spawn may tests n1 none_taken rest tests_are y)

      -- Whichever function it is.

      no_callee : slice_get p.functions.items q ≡ None → ⊥
      no_callee out = true≢false (sym fits.typed ∙ ap (λ o. call_ok p f o es.items) out)

      goes_by : (vs : List Value) → (eval_all p here h v es.items n).end ≡ Gave vs → AllStand l T e words vs → (o : Option FunctionInfo) → slice_get p.functions.items q ≡ o → All (facts (path o).path) → Start
      goes_by vs came stand None is all = absurd (no_callee is)
      goes_by vs came stand (Some g) is all = known_goes g is vs came stand all

      fails_by : (label : ℕ) (vs : List Value) → (eval_all p here h v es.items n).end ≡ Gave vs → AllStand l T e words vs → (o : Option FunctionInfo) → slice_get p.functions.items q ≡ o → FailsOn label n1 (path o) → FailsFor label
      fails_by label vs came stand None is y = absurd (no_callee is)
      fails_by label vs came stand (Some g) is y = known_fails g is vs came stand label y

      -- where the facts of the start are known, a run goes along them
      pub start_back : All (facts (walk.run_action p a f c st).path) → Start
      start_back all =
          let two = facts_apart (Unit {0}) (Knows l T e) symbols.path (path (slice_get p.functions.items q)).path tt all in
          let z = call_parts.args_back p good typed contracts number f fis n0 h0 args good0 fit e spotted hid line n es.items st h v args_fit m two.0 in
          goes_by z.0 z.1 z.2 (slice_get p.functions.items q) refl two.1

      -- where a check of it isn't known true, a run fails it
      pub start_fails : (label : ℕ) → FailsOn label n (walk.run_action p a f c st) → FailsFor label
      start_fails label y =
          ⊎_elim
          (λ i. ([], fails_front label (eval_all p here h v es.items n) (behind_args []) (call_parts.args_fail p good typed contracts number f fis n0 h0 args good0 fit e spotted label hid line n es.items st h v args_fit m i)))
          (λ i.
          let z = call_parts.args_back p good typed contracts number f fis n0 h0 args good0 fit e spotted hid line n es.items st h v args_fit m i.0 in
          fails_by label z.0 z.1 z.2 (slice_get p.functions.items q) refl (at_number (Unit {0}) (Knows l T e) tt label (n + checks symbols.path) n1 (path (slice_get p.functions.items q)).path (ap (λ j. n + j) (all_symbolic_size p a st es.items)) i.1))
          (fails_joined (Unit {0}) (Knows l T e) label n symbols.path (path (slice_get p.functions.items q)).path tt y)
