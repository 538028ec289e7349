-- From an environment to a run, of one function: places, expressions, plain actions, the halves of unwrapping, and the checks of invariants and returns.
use Rattle.converse_law.specs.Direct.{is_direct_action}
use Rattle.std.proofs.Common.{◌≡◌, ℕ, suc, ◌+◌, ◌==◌, ◌⊎◌, inl, inr, ⊎_elim, Bool, true, false, pos, List, [], ◌∷◌, map, length, slice_get, Option, Some, None, refl, ap, sym, ◌∙◌, subst, arith, IsTrue, IsFalse}
use Rattle.object_types.specs.declared.references.Ref.{Ref}
use Rattle.object_types.specs.declared.values.Value.{Value}
use Rattle.object_types.specs.declared.values.Value.TheVariants.{Int, Ref as Refers}
use Rattle.object_types.specs.References.{thread}
use Rattle.object_types.specs.Values.{referent, truth}
use Rattle.object_types.specs.Heap.{Heap}
use Rattle.method.specs.declared.program.CheckKind.{CheckKind}
use Rattle.method.specs.declared.program.CheckKind.TheVariants.{LoopInv, Ensures}
use Rattle.method.specs.declared.program.DeclaredType.TheVariants.{Pointer}
use Rattle.method.specs.declared.program.Expr.{Expr}
use Rattle.method.specs.declared.program.Spec.{Spec}
use Rattle.method.specs.declared.program.Clause.{Clause}
use Rattle.method.specs.declared.program.RightSide.TheVariants.{Compute, Malloc, NewClaim, Interlocked}
use Rattle.method.specs.declared.program.Simple.TheVariants.{Assign, ChangeOwned, EndClaim}
use Rattle.method.specs.declared.program.Action.{Action}
use Rattle.method.specs.declared.program.Action.TheVariants.{Simply, Declare, Define, WrapObject, UnwrapObject, AssertSpec, FreeObject, SpawnThread, Atomic}
use Rattle.method.specs.declared.program.Stmt.{Row_of-Stmt}
use Rattle.method.specs.declared.program.Stmt.TheVariants.{Do}
use Rattle.method.specs.declared.program.FunctionInfo.{FunctionInfo}
use Rattle.method.specs.declared.program.Program.{Program}
use Rattle.method.specs.Tables.{local, in_type, type_of_variable}
use Rattle.method.specs.Legal.{Good}
use Rattle.method.specs.SpecValue.{holds}
use Rattle.method.specs.Machine.{fit_parameters}
use Rattle.method.specs.Machine as machine_turn
use Rattle.method.specs.declared.program.DeclaredType.{DeclaredType}
use Rattle.method.specs.Typing.{WellTyped, values, return_ok, fits as fits_type}
use Rattle.condition_walks.proofs.ActionSorts.{tested}
use Rattle.method.specs.Expressions.{Context, Spot as MachineSpot, Outcome, Gave, Gives as GivesOut, eval, scene, return_scene, Tested, check, check_specs, clause_tests, spec_test}
use Rattle.method.specs.Actions as act
use Rattle.method.specs.Actions.{Chosen, spot, starting}
use Rattle.method.specs.Text.{option_checks}
use Rattle.method.specs.LocalRuns as local_run
use Rattle.method.specs.LocalRuns.{ActsTo, FailsAt, invariants_at}
use Rattle.terms.specs.Formula.{Formula}
use Rattle.term_meaning.specs.Meaning.{Language}
use Rattle.axiom_instances.proofs.Facts.{Shown as ShownHeap}
use Rattle.conditions.specs.Formulas.{integer, reference, heap, not', false_formula}
use Rattle.conditions.specs.Symbolic.{Symbolic, term, test}
use Rattle.conditions.specs.Paths.{Path, Done, Check, Fact, Branch, Standalone as Apart, Execution, Gives, after, fact, facts, checks, check_each}
use Rattle.conditions.specs.Code.{Spot, State, code, return_scene as term_return}
use Rattle.conditions.specs.Actions as walk
use Rattle.conditions.specs.Actions.{clauses}
use Rattle.conditions.specs.Statements as walk_stmt
use Rattle.conditions.specs.Statements.{turns, return_checks}
use Rattle.conditions.specs.Ways.{AllHold, FailsIn}
use Rattle.conditions.proofs.Ways.{fails_joined}
use Rattle.conditions.proofs.WaysBetween.{all_between, fails_between}
use Rattle.conditions.proofs.ToRuns as back_runs
use Rattle.conditions.proofs.Tests.{after_gave, after_failed}
use Rattle.conditions.proofs.Hiding.{after_stmt}
use Rattle.condition_walks.proofs.Checks.{AllIs}
use Rattle.condition_walks.proofs.TermSorts.{AllSorted}
use Rattle.condition_walks.proofs.Sizes.{code_size, checks_joined}
use Rattle.condition_walks.proofs.StatementSizes.{turns_size, invariants_size}
use Rattle.condition_walks.proofs.Fitting.{FitsExpr, FitsAction, FitsReturn, ActionFits, ObjectFits, SpecsFit, LoopFits}
use Rattle.condition_meaning.specs.Languages.{language_of}
use Rattle.condition_meaning.specs.Annotated.{Annotated}
use Rattle.condition_meaning.specs.FunctionWords.{ContractFits}
use Rattle.condition_meaning.proofs.Environments.{Environment, Holds, Is, Has, has_int, holds_is, is_false, has_says}
use Rattle.condition_meaning.proofs.Known.{Known, known_holds, unknown_fails, has_equal, heap_equal, known_parts, known_or, known_other, known_never, known_not}
use Rattle.condition_meaning.proofs.Walks.{Shown as ShownBy}
use Rattle.action_conditions.proofs.Steady.{Steady}
use Rattle.action_conditions.proofs.Places.{Stands}
use Rattle.action_conditions.proofs.Plain as plainly
use Rattle.action_conditions.proofs.Annotated as annotated
use Rattle.action_conditions.proofs.ExpressionsBack as expressions
use Rattle.action_conditions.proofs.NewBacks.{new_never_fails}
use Rattle.function_law.proofs.Texts.{SpecText, WrapText, PlainText}
use Rattle.function_law.proofs.Given as given

module _ (E : Type 0) (e : E) (Holds : E → Formula → Type 0) (Is : E → Formula → Bool → Type 0)
    (holds_is : (e : E) (g : Formula) → Is e g true → Holds e g)
    (is_false : (e : E) (g : Formula) → Is e g false → ¬ Holds e g)
    (label : ℕ)
  where
    at_number : (q : Path) (n m : ℕ) → n ≡ m → FailsIn E Holds label n q e → FailsIn E Holds label m q e
    at_number q n m same y = subst (λ (k : ℕ). FailsIn E Holds label k q e) same y

    -- where a check of specs is false, the run's check fails there
    pub specs_back : {A B : Type 0} (at_ : MachineSpot) (kind : CheckKind) (fs : List Formula) (ts : List Tested) (n : ℕ) (o : Outcome A) (rest : Execution B) → AllIs E Holds Is holds_is is_false e fs (map (λ t. t.holds) ts)
        → FailsIn E Holds label n (check_each fs rest).path e → (FailsIn E Holds label (n + length fs) rest.path e → FailsAt label o) → FailsAt label (check_specs at_ ts n kind o)
    specs_back at_ kind [] [] n o rest is y behind = behind (at_number rest.path n (n + 0) (omega arith) y)
    specs_back at_ kind [] (t ∷ ts) n o rest is y behind = absurd is
    specs_back at_ kind (f ∷ fs) [] n o rest is y behind = absurd is
    specs_back at_ kind (f ∷ fs) (t ∷ ts) n o rest is y behind =
        by_test t.holds is.0 y (λ z. specs_back at_ kind fs ts (n + 1) o rest is.1 (at_number (check_each fs rest).path (suc n) (n + 1) (omega arith) z) (λ w. behind (at_number rest.path (n + 1 + length fs) (n + suc (length fs)) (omega arith) w)))
      where
        by_test : (b : Bool) → Is e f b → ((n ≡ label) × ¬ Holds e f) ⊎ (Holds e f × FailsIn E Holds label (suc n) (check_each fs rest).path e) → (FailsIn E Holds label (suc n) (check_each fs rest).path e → FailsAt label (check_specs at_ ts (n + 1) kind o)) → FailsAt label (check at_ b n kind (check_specs at_ ts (n + 1) kind o))
        by_test true i (inl z) more = absurd (z.1 (holds_is e f i))
        by_test true i (inr z) more = more z.1
        by_test false i (inl z) more = (kind, at_.line, ap (λ m. (check at_ false m kind (check_specs at_ ts (n + 1) kind o)).end) z.0)
        by_test false i (inr z) more = absurd (is_false e f i z.0)

module _ (p : Program) (good : Annotated p) (typed : WellTyped p) (contracts : (n : ℕ) (g : FunctionInfo) → slice_get p.functions.items n ≡ Some g → ContractFits p g)
    (number : ℕ) (f : FunctionInfo) (fis : slice_get p.functions.items number ≡ Some f) (n0 : ℕ) (h0 : Heap) (args : List Value) (good0 : Good p h0) (fit : fit_parameters f args ≡ true)
  where
    abbrev pub l : Language
    l = language_of p

    abbrev pub T : Ref
    T = thread n0

    abbrev pub x : Context
    x = given.x p good typed contracts number f fis n0 h0 args good0 fit

    abbrev pub a : Spot
    a = given.a p good typed contracts number f fis n0 h0 args good0 fit

    abbrev pub size : ℕ
    size = length f.variables.items

    abbrev pub Spotted : Environment l T → Type 0
    Spotted = given.Spotted p good typed contracts number f fis n0 h0 args good0 fit

    -- plain text without malloc and what is atomic by itself
    abbrev pub DirectText : Action → Type 0
    DirectText c = PlainText p good number f fis c × IsTrue (is_direct_action c)

    abbrev pub TextSpec : Spec → Type 0
    TextSpec e = SpecText p good number f fis e

    abbrev pub TextWrap : ℕ → ℕ → Type 0
    TextWrap = WrapText p f

    -- In one environment.
    module _ (e : Environment l T) (spotted : Spotted e) where
      abbrev pub Knows : Unit {0} → Formula → Type 0
      Knows u g = Known l T e g

      abbrev pub Matches : (ℕ → Bool) → Unit {0} → State → Heap → List Value → Type 0
      Matches = back_runs.Matches (Unit {0}) Knows (λ u. Is l T e) (λ u. Has l T e) (λ u y h. ShownHeap l e.env y h) (λ u. has_says l T e) (λ u n y z. has_equal l T e (integer n) y (Int z)) (λ u n y r. has_equal l T e (reference n) y (Refers r)) (λ u n y h. heap_equal l T e (heap n) y h) (λ u. known_parts l T e) (λ u. known_or l T e) (λ u. known_other l T e) (λ u. known_never l T e) (λ u. known_not l T e) (Steady p f) size

      abbrev Shown : (ℕ → Bool) → Unit {0} → ℕ → List Symbolic → (ℕ → Value) → Type 0
      Shown = back_runs.Shown (Unit {0}) Knows (λ u. Is l T e) (λ u. Has l T e) (λ u y h. ShownHeap l e.env y h) (λ u. has_says l T e) (λ u n y z. has_equal l T e (integer n) y (Int z)) (λ u n y r. has_equal l T e (reference n) y (Refers r)) (λ u n y h. heap_equal l T e (heap n) y h) (λ u. known_parts l T e) (λ u. known_or l T e) (λ u. known_other l T e) (λ u. known_never l T e) (λ u. known_not l T e) (Steady p f) size

      abbrev pub Forth : (ℕ → Bool) → State → Heap → List Value → Type 0
      Forth hid st h v = given.Matches p good typed contracts number f fis n0 h0 args good0 fit hid e st h (local v)

      shown_forth : (hid : ℕ → Bool) (i : ℕ) (ws : List Symbolic) (value : ℕ → Value) → Shown hid tt i ws value → ShownBy l T size Spotted hid e i ws value
      shown_forth hid i [] value s = tt
      shown_forth hid i (w ∷ ws) value s = (s.0, shown_forth hid (i + 1) ws value s.1)

      shown_back : (hid : ℕ → Bool) (i : ℕ) (ws : List Symbolic) (value : ℕ → Value) → ShownBy l T size Spotted hid e i ws value → Shown hid tt i ws value
      shown_back hid i [] value s = tt
      shown_back hid i (w ∷ ws) value s = (s.0, shown_back hid (i + 1) ws value s.1)

      -- a place of the one induction is one of the other
      pub forth : (hid : ℕ → Bool) (st : State) (h : Heap) (v : List Value) → Matches hid tt st h v → Forth hid st h v
      forth hid st h v m = record { spot = spotted; many = m.many; heap = m.heap.has; locals = shown_forth hid 0 st.locals (local v) m.locals }

      pub back : (hid : ℕ → Bool) (st : State) (h : Heap) (v : List Value) → Forth hid st h v → Steady p f h v → Matches hid tt st h v
      back hid st h v m s = record { many = m.many; heap = record { has = m.heap; proper = s.heap.heap_of }; locals = shown_back hid 0 st.locals (local v) m.locals; steady = s }

      -- what is known holds, and what fails to be known fails to hold
      pub all_true : (fs : List Formula) → AllHold (Unit {0}) Knows tt fs → AllHold (Environment l T) (Holds l T) e fs
      all_true = all_between (Unit {0}) tt Knows (Environment l T) e (Holds l T) (known_holds l T e)

      pub all_known : (fs : List Formula) → AllHold (Unit {0}) Knows tt fs → AllHold (Environment l T) (Known l T) e fs
      all_known = all_between (Unit {0}) tt Knows (Environment l T) e (Known l T) (λ g k. k)

      pub fails_true : (label n : ℕ) (q : Path) → FailsIn (Unit {0}) Knows label n q tt → FailsIn (Environment l T) (Holds l T) label n q e
      fails_true = fails_between (Unit {0}) tt Knows (Environment l T) e (Holds l T) (known_holds l T e) (unknown_fails l T e)

      pub fails_known : (label n : ℕ) (q : Path) → FailsIn (Unit {0}) Knows label n q tt → FailsIn (Environment l T) (Known l T) label n q e
      fails_known = fails_between (Unit {0}) tt Knows (Environment l T) e (Known l T) (λ g k. k) (λ g k. k)

      -- Expressions.

      pub code_back : (hid : ℕ → Bool) (line n : ℕ) (c : Expr) (st : State) (h : Heap) (v : List Value) (u : Unit {0}) → FitsExpr p number f hid c → Matches hid u st h v → AllHold (Unit {0}) Knows u (facts (code p a st c).path)
          → (w : Value) × ((eval p (spot x [] line) h v c n).end ≡ Gave w) × ((IsTrue (truth w) × Knows u (test (code p a st c).gives)) ⊎ (IsFalse (truth w) × Knows u (not' (test (code p a st c).gives))))
      code_back hid line n c st h v u fits m all =
          let z = expressions.code_back l typed T f x refl refl a hid line n c st h v fits m.steady e (plainly.stated_of l typed T f x fis refl refl a [] line hid e st h v m.steady (forth hid st h v m)) (all_known (facts (code p a st c).path) all) in
          (_, z.0, z.1)

      pub code_fails : (label : ℕ) (hid : ℕ → Bool) (line n : ℕ) (c : Expr) (st : State) (h : Heap) (v : List Value) (u : Unit {0}) → FitsExpr p number f hid c → Matches hid u st h v → FailsIn (Unit {0}) Knows label n (code p a st c).path u → FailsAt label (eval p (spot x [] line) h v c n)
      code_fails label hid line n c st h v u fits m y =
          expressions.code_fails_back l typed T f x refl refl a hid line n c st h v fits m.steady e (plainly.stated_of l typed T f x fis refl refl a [] line hid e st h v m.steady (forth hid st h v m)) label (fails_known label n (code p a st c).path y)

      -- Actions.

      abbrev Alone : (ℕ → Bool) → Action → Type 0
      Alone = annotated.IsAlone p good typed f x fis T refl refl a good0.well_formed.heap_of fit

      alone_or_declared : (hid : ℕ → Bool) (c : Action) → FitsAction p number f hid c → DirectText c → Alone hid c ⊎ ((i : ℕ) × (Declare i ≡ c))
      alone_or_declared hid (Simply (Assign t (Compute y))) fits s = inl tt
      alone_or_declared hid (Simply (Assign t (Malloc ty))) fits s = absurd (let z = s.1 in cc)
      alone_or_declared hid (Simply (Assign t (NewClaim n))) fits s = absurd (let z = s.1 in cc)
      alone_or_declared hid (Simply (Assign t (Interlocked y n op c))) fits s = absurd (let z = s.1 in cc)
      alone_or_declared hid (Simply (ChangeOwned o y ys)) fits s = inl tt
      alone_or_declared hid (Simply (EndClaim q y ys)) fits s = absurd (let z = s.1 in cc)
      alone_or_declared hid (Declare i) fits s = inr (i, refl)
      alone_or_declared hid (Define i (Compute y)) fits s = inl tt
      alone_or_declared hid (Define i (Malloc ty)) fits s = absurd (let z = s.1 in cc)
      alone_or_declared hid (Define i (NewClaim n)) fits s = absurd (let z = s.1 in cc)
      alone_or_declared hid (Define i (Interlocked y n op c)) fits s = absurd (let z = s.1 in cc)
      alone_or_declared hid (WrapObject ty q y) fits s = inl (given.is_plain p good typed contracts number f fis n0 h0 args good0 fit hid (WrapObject ty q y) fits s.0)
      alone_or_declared hid (UnwrapObject y) fits s = inl tt
      alone_or_declared hid (AssertSpec y) fits s = inl (given.is_plain p good typed contracts number f fis n0 h0 args good0 fit hid (AssertSpec y) fits s.0)
      alone_or_declared hid (FreeObject y) fits s = inl tt
      alone_or_declared hid (SpawnThread k ys) fits s = absurd (let z = s.1 in cc)
      alone_or_declared hid (Atomic ls body) fits s = absurd (let z = s.1 in cc)

      abbrev Acted : (ℕ → Bool) → ℕ → ℕ → Action → State → Heap → List Value → Type 0
      Acted hid line n c st h v = (h' : Heap) × (v' : List Value) × (choices : List Value) × (news : List Ref) × ActsTo p x f (act.act p x choices (Chosen news) line c n h v) h' v' × Matches (after_stmt (Do line c) hid) tt (walk.run_action p a f c st).gives h' v'

      pub act_back : (hid : ℕ → Bool) (line n : ℕ) (c : Action) (st : State) (h : Heap) (v : List Value) (u : Unit {0}) → ActionFits p number f DirectText TextSpec TextWrap hid c → AllSorted f.variables.items st.locals → Matches hid u st h v → AllHold (Unit {0}) Knows u (facts (walk.run_action p a f c st).path) → Acted hid line n c st h v
      act_back hid line n c st h v u fits sorted m all =
          ⊎_elim (λ alone.
          let r = annotated.act_back p good typed f x fis T refl refl a good0.well_formed.heap_of fit hid line n c st h v e fits.0 alone sorted m.steady (forth hid st h v m) (all_true (facts (walk.run_action p a f c st).path) all) in
          (r.0, r.1, [], [], r.2, back (after_stmt (Do line c) hid) (walk.run_action p a f c st).gives r.0 r.1 r.3 (given.act_steady p good typed contracts number f fis n0 h0 args good0 fit DirectText TextWrap hid line n c [] [] h r.0 v r.1 fits m.steady r.2)))
          (λ declared.
          let fits' = subst (λ (d : Action). ActionFits p number f DirectText TextSpec TextWrap hid d) (sym declared.1) fits in
          subst (λ (d : Action). Acted hid line n d st h v) declared.1
          (by_declared declared.0 fits' (all_true (facts (walk.run_action p a f (Declare declared.0) st).path) (subst (λ (d : Action). AllHold (Unit {0}) Knows tt (facts (walk.run_action p a f d st).path)) (sym declared.1) all))))
          (alone_or_declared hid c fits.0 fits.1)
        where
          by_declared : (i : ℕ) → ActionFits p number f DirectText TextSpec TextWrap hid (Declare i) → AllHold (Environment l T) (Holds l T) e (facts (walk.run_action p a f (Declare i) st).path) → Acted hid line n (Declare i) st h v
          by_declared i fits' known =
              let r = annotated.declare_back p good typed f x fis T refl refl a good0.well_formed.heap_of fit hid line n i st h v e fits'.0 m.steady (forth hid st h v m) known in
              (r.0, r.1, r.2, [], r.3, back (after_stmt (Do line (Declare i)) hid) (walk.run_action p a f (Declare i) st).gives r.0 r.1 r.4 (given.act_steady p good typed contracts number f fis n0 h0 args good0 fit DirectText TextWrap hid line n (Declare i) r.2 [] h r.0 v r.1 fits' m.steady r.3))

      pub act_fails : (label : ℕ) (hid : ℕ → Bool) (line n : ℕ) (c : Action) (st : State) (h : Heap) (v : List Value) (u : Unit {0}) → ActionFits p number f DirectText TextSpec TextWrap hid c → AllSorted f.variables.items st.locals → Matches hid u st h v → FailsIn (Unit {0}) Knows label n (walk.run_action p a f c st).path u
          → (choices : List Value) × (news : List Ref) × FailsAt label (act.act p x choices (Chosen news) line c n h v)
      act_fails label hid line n c st h v u fits sorted m y =
          ⊎_elim (λ alone. ([], [], annotated.act_fails_back p good typed f x fis T refl refl a good0.well_formed.heap_of fit hid line n c st h v e fits.0 alone sorted m.steady (forth hid st h v m) label (fails_true label n (walk.run_action p a f c st).path y)))
          (λ declared. absurd (by_declared declared.0 (subst (λ (d : Action). ActionFits p number f DirectText TextSpec TextWrap hid d) (sym declared.1) fits) (subst (λ (d : Action). FailsIn (Unit {0}) Knows label n (walk.run_action p a f d st).path tt) (sym declared.1) y)))
          (alone_or_declared hid c fits.0 fits.1)
        where
          by_declared : (i : ℕ) → ActionFits p number f DirectText TextSpec TextWrap hid (Declare i) → FailsIn (Unit {0}) Knows label n (walk.run_action p a f (Declare i) st).path tt → ⊥
          by_declared i fits' z = new_never_fails l T e (type_of_variable f i) st label n (fails_true label n (walk.run_action p a f (Declare i) st).path z)

      -- The halves of unwrapping.

      abbrev Object : ℕ → ℕ → Expr → Type 0
      Object ty q c = ObjectFits p number f DirectText TextSpec TextWrap ty q c

      refers_in : (ty : ℕ) (w : Value) → in_type (Pointer ty) w ≡ true → in_type (Pointer ty) (Refers (referent w)) ≡ true
      unfolding in_type
      refers_in ty (Int z) i = absurd (cc)
      refers_in ty (Refers r) i = i

      pub object_back : (hid : ℕ → Bool) (ty q line n : ℕ) (c : Expr) (st : State) (h : Heap) (v : List Value) (w : Value) (u : Unit {0}) → FitsExpr p number f hid c → Object ty q c → Matches hid u st h v → (eval p (spot x [] line) h v c n).end ≡ Gave w → Has l T e (term (code p a st c).gives) (Refers (referent w)) × (in_type (Pointer ty) (Refers (referent w)) ≡ true)
      object_back hid ty q line n c st h v w u fits object m gave = (
        given.pointer_refers p good typed contracts number f fis n0 h0 args good0 fit hid (λ k. k == ty) line n c st h v w fits object.0.typed m.steady gave e (forth hid st h v m),
        refers_in ty w (given.object_typed p good typed contracts number f fis n0 h0 args good0 fit DirectText hid ty q line n c h v w fits object m.steady gave),
      )

      pub unwrap_back : (hid : ℕ → Bool) (ty q line n : ℕ) (c : Expr) (o : Formula) (r : Ref) (st : State) (h : Heap) (v : List Value) (u : Unit {0}) → Object ty q c → in_type (Pointer ty) (Refers r) ≡ true → Has l T e o (Refers r) → Matches hid u st h v → AllHold (Unit {0}) Knows u (facts (walk.unwrap_object p a o st).path)
          → (h' : Heap) × (v' : List Value) × ActsTo p x f (act.unwrap_object p (spot x [] line) r n (starting h v (Chosen []))) h' v' × Matches hid u (walk.unwrap_object p a o st).gives h' v'
      unwrap_back hid ty q line n c o r st h v u object in_it has m all =
          let k = annotated.unwrap_back p good typed f x fis T refl refl a good0.well_formed.heap_of fit hid ty line n o r st h v object.0.struct in_it m.steady e has (forth hid st h v m) (all_true (facts (walk.unwrap_object p a o st).path) all) in
          (k.0, k.1, k.2, back hid (walk.unwrap_object p a o st).gives k.0 k.1 k.3 (given.unwrap_steady p good typed contracts number f fis n0 h0 args good0 fit DirectText ty q line n c r h k.0 v k.1 object in_it m.steady k.2))

      pub unwrap_fails : (label : ℕ) (hid : ℕ → Bool) (ty q line n : ℕ) (c : Expr) (o : Formula) (r : Ref) (st : State) (h : Heap) (v : List Value) (u : Unit {0}) → Object ty q c → in_type (Pointer ty) (Refers r) ≡ true → Has l T e o (Refers r) → Matches hid u st h v → FailsIn (Unit {0}) Knows label n (walk.unwrap_object p a o st).path u
          → FailsAt label (act.unwrap_object p (spot x [] line) r n (starting h v (Chosen [])))
      unwrap_fails label hid ty q line n c o r st h v u object in_it has m y = annotated.unwrap_fails_back p good typed f x fis T refl refl a good0.well_formed.heap_of fit hid ty line n o r st h v object.0.struct in_it m.steady label e has (forth hid st h v m) (fails_true label n (walk.unwrap_object p a o st).path y)

      pub wrap_back : (hid : ℕ → Bool) (ty q line n : ℕ) (c : Expr) (o : Formula) (r : Ref) (st : State) (h : Heap) (v : List Value) (u : Unit {0}) → Object ty q c → in_type (Pointer ty) (Refers r) ≡ true → Has l T e o (Refers r) → Matches hid u st h v → AllHold (Unit {0}) Knows u (facts (walk.wrap_object p a ty q o st).path)
          → (h' : Heap) × (v' : List Value) × ActsTo p x f (act.wrap_object p (spot x [] line) ty r n (starting h v (Chosen []))) h' v' × Matches hid u (walk.wrap_object p a ty q o st).gives h' v'
      wrap_back hid ty q line n c o r st h v u object in_it has m all =
          let k = annotated.wrap_back p good typed f x fis T refl refl a good0.well_formed.heap_of fit hid ty line n o r st h v object.0.struct in_it m.steady q (given.wrap_of p good typed contracts number f fis n0 h0 args good0 fit ty q object.1) e has (forth hid st h v m) (all_true (facts (walk.wrap_object p a ty q o st).path) all) in
          (k.0, k.1, k.2, back hid (walk.wrap_object p a ty q o st).gives k.0 k.1 k.3 (given.wrap_steady p good typed contracts number f fis n0 h0 args good0 fit DirectText ty q line n c r h k.0 v k.1 object in_it m.steady k.2))

      pub wrap_fails : (label : ℕ) (hid : ℕ → Bool) (ty q line n : ℕ) (c : Expr) (o : Formula) (r : Ref) (st : State) (h : Heap) (v : List Value) (u : Unit {0}) → Object ty q c → in_type (Pointer ty) (Refers r) ≡ true → Has l T e o (Refers r) → Matches hid u st h v → FailsIn (Unit {0}) Knows label n (walk.wrap_object p a ty q o st).path u
          → FailsAt label (act.wrap_object p (spot x [] line) ty r n (starting h v (Chosen [])))
      wrap_fails label hid ty q line n c o r st h v u object in_it has m y = annotated.wrap_fails_back p good typed f x fis T refl refl a good0.well_formed.heap_of fit hid ty line n o r st h v object.0.struct in_it m.steady q (given.wrap_of p good typed contracts number f fis n0 h0 args good0 fit ty q object.1) label e has (forth hid st h v m) (fails_true label n (walk.wrap_object p a ty q o st).path y)

      -- Invariants of loops, and the contract at a return.

      abbrev Specs : (ℕ → Bool) → List Spec → Type 0
      Specs hid invs = SpecsFit p number f DirectText TextSpec TextWrap hid invs

      abbrev Loop : (ℕ → Bool) → List Spec → (m : _) → Row_of-Stmt m → Type 0
      Loop = LoopFits p number f DirectText TextSpec TextWrap

      are_tested : (st : State) (sc : Heap) (v : List Value) (invs : List Spec) → AllIs (Environment l T) (Holds l T) (Is l T) (holds_is l T) (is_false l T) e (walk_stmt.invariant_formulas p f a invs st) (map (λ g. holds p g (scene x sc v)) invs) → AllIs (Environment l T) (Holds l T) (Is l T) (holds_is l T) (is_false l T) e (walk_stmt.invariant_formulas p f a invs st) (map (λ (t : Tested). t.holds) (map (λ g. spec_test p g (scene x sc v)) invs))
      are_tested st sc v [] is = tt
      are_tested st sc v (g ∷ gs) is = (is.0, are_tested st sc v gs is.1)

      specs_fail : (label : ℕ) (hid : ℕ → Bool) (line n : ℕ) (invs : List Spec) (st : State) (h : Heap) (v : List Value) → Specs hid invs → AllSorted f.variables.items st.locals → Matches hid tt st h v → FailsIn (Environment l T) (Holds l T) label n (walk_stmt.check_invariants p f a invs st).path e → FailsAt label (invariants_at p x f line invs h v n)
      specs_fail label hid line n invs st h v fits sorted m y =
          specs_back (Environment l T) e (Holds l T) (Is l T) (holds_is l T) (is_false l T) label (spot x [] line) LoopInv (walk_stmt.invariant_formulas p f a invs st) (map (λ g. spec_test p g (scene x h v)) invs) n (GivesOut tt) (Gives st)
          (are_tested st h v invs (given.inv_are p good typed contracts number f fis n0 h0 args good0 fit DirectText TextWrap hid invs st h v fits sorted m.steady e (forth hid st h v m))) y (λ z. absurd z)

      pub invariants_fail : (label : ℕ) (hid : ℕ → Bool) (line n : ℕ) (invs : List Spec) (st : State) (h : Heap) (v : List Value) (u : Unit {0}) → Specs hid invs → AllSorted f.variables.items st.locals → Matches hid u st h v → FailsIn (Unit {0}) Knows label n (walk_stmt.check_invariants p f a invs st).path u → FailsAt label (invariants_at p x f line invs h v n)
      invariants_fail label hid line n invs st h v u fits sorted m y = specs_fail label hid line n invs st h v fits sorted m (fails_true label n (walk_stmt.check_invariants p f a invs st).path y)

      pub loop_specs : (hid : ℕ → Bool) (invs : List Spec) (m : _) (row : Row_of-Stmt m) → Loop hid invs m row → Specs hid invs
      loop_specs hid invs m row fits = (record { is = fits.0.is; seen = fits.0.seen; scoped = fits.0.scoped }, fits.1)

      clauses_tested : (cs : List Clause) (t : _) (sc : _) → AllIs (Environment l T) (Holds l T) (Is l T) (holds_is l T) (is_false l T) e (clauses p a cs t) (map (λ d. holds p d.spec sc) cs) → AllIs (Environment l T) (Holds l T) (Is l T) (holds_is l T) (is_false l T) e (clauses p a cs t) (map (λ (t : Tested). t.holds) (clause_tests p cs sc))
      clauses_tested [] t sc is = tt
      clauses_tested (c ∷ cs) t sc is = (is.0, clauses_tested cs t sc is.1)

      return_fits : (hid : ℕ → Bool) (c : Expr) → FitsReturn p number f hid (Some c) → FitsExpr p number f hid c
      return_fits hid c fits = record { is = fits.is; seen = fits.seen; scoped = fits.scoped; values_are = (by f.result fits.typed).0; typed = (by f.result fits.typed).1 }
        where
          by : (ty : Option DeclaredType) → return_ok p f ty (Some c) ≡ true → (u : _) × (values p f c ≡ Some u)
          by None ok = absurd (cc)
          by (Some ty) ok = let z = tested p f (values p f c) (λ u. fits_type u ty) ok in (z.0, z.1)

      value_size : (c : Option Expr) (st : State) → checks (walk_stmt.value_of p f a c st).path ≡ option_checks c
      value_size None st = refl
      value_size (Some c) st = code_size p a st c

      fails_in_value : (label : ℕ) (hid : ℕ → Bool) (line n : ℕ) (c : Option Expr) (st : State) (h : Heap) (v : List Value) → FitsReturn p number f hid c → Matches hid tt st h v → FailsIn (Unit {0}) Knows label n (walk_stmt.value_of p f a c st).path tt → FailsAt label (machine_turn.value_of p (spot x [] line) c h v n)
      fails_in_value label hid line n None st h v fits m y = absurd y
      fails_in_value label hid line n (Some c) st h v fits m y = code_fails label hid line n c st h v tt (return_fits hid c fits) m y

      value_back : (hid : ℕ → Bool) (line n : ℕ) (c : Option Expr) (st : State) (h : Heap) (v : List Value) → FitsReturn p number f hid c → Matches hid tt st h v → AllHold (Unit {0}) Knows tt (facts (walk_stmt.value_of p f a c st).path)
          → (w : Value) × ((machine_turn.value_of p (spot x [] line) c h v n).end ≡ Gave w) × Stands l T e (walk_stmt.value_of p f a c st).gives w
      value_back hid line n None st h v fits m all = (Int (pos 0), refl, (pos 0, has_int l T e (pos 0), refl))
      value_back hid line n (Some c) st h v fits m all =
          let z = code_back hid line n c st h v tt (return_fits hid c fits) m all in
          (z.0, z.1, (given.code_has p good typed contracts number f fis n0 h0 args good0 fit hid line n c st h v z.0 (return_fits hid c fits) m.steady z.1 e (forth hid st h v m)).1)

      pub leaves_fail : (label : ℕ) (hid : ℕ → Bool) (line n : ℕ) (c : Option Expr) (st : State) (h : Heap) (v : List Value) (u : Unit {0}) → FitsReturn p number f hid c → AllSorted f.variables.items st.locals → Matches hid u st h v → FailsIn (Unit {0}) Knows label n (return_checks p f a c st).path u → FailsAt label (local_run.returns p x f line c n h v)
      leaves_fail label hid line n c st h v u fits sorted m y =
          let at_ = spot x [] line in
          let w = (walk_stmt.value_of p f a c st).gives in
          let t = term_return a.entry a.args st.heap w in
          let o = machine_turn.value_of p at_ c h v n in
          let then_ = λ (r : Value). check_specs at_ (clause_tests p f.ensures_.items (return_scene x h r)) (n + option_checks c) Ensures (GivesOut tt) in
          let rest = check_each (clauses p a f.ensures_.items t) (Gives st) in
          ⊎_elim (λ z. let k = fails_in_value label hid line n c st h v fits m z in (k.0, k.1, after_failed o then_ label k.0 k.1 k.2))
          (λ z.
          let r = value_back hid line n c st h v fits m z.0 in
          let k = specs_back (Environment l T) e (Holds l T) (Is l T) (holds_is l T) (is_false l T) label at_ Ensures (clauses p a f.ensures_.items t) (clause_tests p f.ensures_.items (return_scene x h r.0)) (n + option_checks c) (GivesOut tt) (Gives st)
          (clauses_tested f.ensures_.items t (return_scene x h r.0) (given.leaves_are p good typed contracts number f fis n0 h0 args good0 fit label hid line n c st h v r.0 fits sorted m.steady r.1 e (forth hid st h v m) r.2))
          (subst (λ (k : ℕ). FailsIn (Environment l T) (Holds l T) label k rest.path e) (ap (λ i. n + i) (value_size c st)) (fails_true label (n + checks (walk_stmt.value_of p f a c st).path) rest.path z.1)) (λ z. absurd z) in
          (k.0, k.1, after_gave o then_ r.0 r.1 ∙ k.2))
          (fails_joined (Unit {0}) Knows label n (walk_stmt.value_of p f a c st).path rest.path tt y)

      pub returns_fail : (label : ℕ) (hid : ℕ → Bool) (line n : ℕ) (c : Option Expr) (st : State) (h : Heap) (v : List Value) (u : Unit {0}) → FitsReturn p number f hid c → AllSorted f.variables.items st.locals → Matches hid u st h v → FailsIn (Unit {0}) Knows label n (after (return_checks p f a c st) (λ st2. fact false_formula (Gives st2))).path u → FailsAt label (local_run.returns p x f line c n h v)
      returns_fail label hid line n c st h v u fits sorted m y =
          ⊎_elim (λ z. leaves_fail label hid line n c st h v u fits sorted m z) (λ z. absurd z.1.1) (fails_joined (Unit {0}) Knows label n (return_checks p f a c st).path (fact false_formula (Gives (return_checks p f a c st).gives)).path tt y)

      -- The first checks of a loop.

      nothing_fails : (label n : ℕ) (q : Path) → checks q ≡ 0 → FailsIn (Unit {0}) Knows label n q tt → ⊥
      nothing_fails label n Done is y = y
      nothing_fails label n (Check g q) is y = omega (arith, is)
      nothing_fails label n (Fact g q) is y = nothing_fails label n q is y.1
      nothing_fails label n (Branch b q) is (inl y) = nothing_fails label n b (omega (arith, is)) y
      nothing_fails label n (Branch b q) is (inr y) = nothing_fails label (n + checks b) q (omega (arith, is)) y
      nothing_fails label n (Apart g q) is y = omega (arith, is)

      abbrev turn : {m : _} → List Spec → Row_of-Stmt m → State → Execution State
      turn invs row st1 = after (walk_stmt.havoc f (walk_stmt.is_set_by p f a row) 0 f.variables.items st1) (λ st2. after (walk_stmt.frame_step a.entry a.writes st2) (λ st3. walk_stmt.assume_invariants p f a invs st3))

      pub turns_fail : (label : ℕ) (hid : ℕ → Bool) (line n : ℕ) (invs : List Spec) (m : _) (row : Row_of-Stmt m) (st : State) (h : Heap) (v : List Value) (u : Unit {0}) → Loop hid invs m row → AllSorted f.variables.items st.locals → Matches hid u st h v → FailsIn (Unit {0}) Knows label n (turns p f a invs row st).path u → FailsAt label (invariants_at p x f line invs h v n)
      turns_fail label hid line n invs m row st h v u fits sorted here y =
          let q = walk_stmt.check_invariants p f a invs st in
          let rest = turn invs row q.gives in
          let none : checks rest.path ≡ 0 = (let i = sym (checks_joined q.path rest.path) ∙ turns_size p f a invs m row st in let j = invariants_size p f a invs st in omega (arith, i, j)) in
          ⊎_elim (λ z. invariants_fail label hid line n invs st h v u (loop_specs hid invs m row fits) sorted here z) (λ z. absurd (nothing_fails label (n + checks q.path) rest.path none z.1))
          (fails_joined (Unit {0}) Knows label n q.path rest.path tt y)
