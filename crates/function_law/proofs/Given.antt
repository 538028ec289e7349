-- What the law of one function takes, for the environments of a program: expressions, annotations, contracts, rely and frame, the entry.
use Rattle.axiom_instances.proofs.Steps.{references_back}
use Rattle.std.proofs.Common.{◌≡◌, ℕ, zero, suc, ◌+◌, ◌==◌, Bool, true, false, ℤ, pos, List, [], ◌∷◌, ◌++◌, map, length, take, drop, slice_get, Option, Some, None, Vec, Global, refl, ap, sym, ◌∙◌, subst, arith}
use Rattle.std.specs.Prelude.{IsTrue}
use Rattle.object_types.specs.declared.references.Ref.{Ref}
use Rattle.object_types.specs.declared.values.Value.{Value}
use Rattle.object_types.specs.declared.values.Value.TheVariants.{Int, Ref as Refers}
use Rattle.object_types.specs.References.{thread}
use Rattle.object_types.specs.Values.{int, referent, truth}
use Rattle.object_types.specs.Sets.{every}
use Rattle.object_types.specs.Heap.{Heap}
use Rattle.int_ranges.specs.declared.ctype.CType.{CType}
use Rattle.int_ranges.specs.Ranges as machine_range
use Rattle.method.specs.declared.program.DeclaredType.{DeclaredType}
use Rattle.method.specs.declared.program.DeclaredType.TheVariants.{Pointer}
use Rattle.method.specs.declared.program.Expr.{Expr}
use Rattle.method.specs.declared.program.Spec.{Spec}
use Rattle.method.specs.declared.program.Action.{Action}
use Rattle.method.specs.declared.program.Receiver.{Receiver}
use Rattle.method.specs.declared.program.Stmt.{Row_of-Stmt}
use Rattle.method.specs.declared.program.VariableInfo.{VariableInfo}
use Rattle.method.specs.declared.program.FunctionInfo.{FunctionInfo}
use Rattle.method.specs.declared.program.Program.{Program}
use Rattle.method.specs.Tables.{local, in_type}
use Rattle.method.specs.WellFormed.{IsHeapOf}
use Rattle.method.specs.Legal.{Good}
use Rattle.method.specs.Rely.{Rely, Frame}
use Rattle.method.specs.SpecValue.{holds}
use Rattle.method.specs.Machine.{fit_parameters}
use Rattle.method.specs.Typing.{WellTyped, Values, values, is_pointer, point_to}
use Rattle.method.specs.Expressions.{Context, Gave, eval, scene}
use Rattle.method.specs.Actions.{Chosen, spot, starting, callee}
use Rattle.method.specs.LocalRuns.{FailsAt, Calling, Answers, of_type, Lazily, ReachesBy, FailsBodyBy}
use Rattle.method.specs.WellFormed.{is_value}
use Rattle.machine_laws.proofs.Records.{value_of_type}
use Rattle.condition_meaning.specs.Fits.{is_ref}
use Rattle.condition_meaning.proofs.FunctionScenes.{sort_by_type}
use Rattle.condition_meaning.proofs.Contracts.{ensures_are}
use Rattle.conditions.specs.Quantified.{any_result}
use Rattle.conditions.specs.Symbolic.{Truth, Number, Reference}
use Rattle.conditions.specs.Code.{return_scene as term_return}
use Rattle.method.specs.Expressions.{return_scene}
use Rattle.terms.specs.declared.term.Kind.TheVariants as kinds
use Rattle.terms.specs.Formula.{Formula}
use Rattle.term_meaning.specs.Meaning.{Language}
use Rattle.axiom_instances.proofs.Kit.{none, one, more, node_holds, HaveAll}
use Rattle.axiom_instances.proofs.Facts.{good_holds}
use Rattle.conditions.specs.Formulas.{row, node, nat, me, not', heap}
use Rattle.term_meaning.specs.Meaning.{ref_value}
use Rattle.condition_walks.proofs.ActionSorts.{tested}
use Rattle.conditions.specs.Symbolic.{Symbolic, term, test, ranges}
use Rattle.conditions.specs.Paths.{facts}
use Rattle.conditions.specs.Annotations.{formula}
use Rattle.conditions.proofs.Same.{both_true}
use Rattle.method.specs.Scopes.{spec_in}
use Rattle.condition_walks.proofs.Fitting as fitting
use Rattle.conditions.specs.Code.{Spot, State, in_range, code, scene as place_scene}
use Rattle.conditions.specs.Quantified.{function_words}
use Rattle.conditions.specs.Statements.{invariant_formulas}
use Rattle.conditions.specs.Ways.{AllHold, FailsIn, StandsFor}
use Rattle.conditions.proofs.FromRuns as runs
use Rattle.conditions.proofs.Tests.{plain, tests, ends_eval, ends_gave}
use Rattle.condition_walks.proofs.TermSorts.{AllSorted}
use Rattle.condition_walks.proofs.Checks.{AllIs}
use Rattle.condition_walks.proofs.Fitting.{FitsExpr, SpecsFit, AllText}
use Rattle.condition_walks.proofs.Entry.{entry_spot}
use Rattle.condition_meaning.specs.Languages.{language_of}
use Rattle.condition_meaning.specs.Annotated.{Annotated}
use Rattle.condition_meaning.specs.FunctionWords.{ContractFits}
use Rattle.condition_meaning.proofs.Environments.{Environment, Agree, agree_self, agree_then, agree_less, Holds, Is, Has, HeapIs, holds_is, is_false, is_not, has_int, has_me, is_in_range, has_says, holds_eq, holds_same, holds_all, holds_first, holds_second, holds_yes, holds_and, holds_imp}
use Rattle.condition_meaning.proofs.Extensions.{an_integer, is_integer, a_reference, is_refers, a_heap, is_heap}
use Rattle.action_conditions.proofs.Words.{Refer}
use Rattle.action_conditions.proofs.Places.{Stands, AllStand, SpotIs, stands_term, stands_test}
use Rattle.action_conditions.proofs.NewValues.{ranges_hold}
use Rattle.action_conditions.proofs.Stores.{code_stands, code_refers}
use Rattle.action_conditions.proofs.Assigns.{points_ints}
use Rattle.action_conditions.proofs.Scopes.{fits_expr}
use Rattle.action_conditions.proofs.Steady.{Steady}
use Rattle.action_conditions.proofs.Plain as plainly
use Rattle.action_conditions.proofs.Annotations as notes
use Rattle.method.specs.SpecValue.{value}
use Rattle.method.specs.Actions as act
use Rattle.method.specs.Expressions.{eval_all, call_scene, Tested, item_tests, may_write}
use Rattle.method.specs.Text.{receiver_checks}
use Rattle.method.specs.Typing.{call_ok, receiver_ok, result_values}
use Rattle.machine_laws.proofs.Acts.{call_args}
use Rattle.conditions.specs.Annotations.{symbolic_at, translate}
use Rattle.conditions.specs.Code.{writable, call_scene as term_call}
use Rattle.conditions.specs.Actions.{clauses, items_of}
use Rattle.condition_walks.proofs.Calls as calls
use Rattle.condition_meaning.proofs.FunctionScenes.{Args, EachIs}
use Rattle.condition_meaning.proofs.Columns.{AreRefs, is_writable}
use Rattle.condition_meaning.proofs.Contracts.{requires_are, writes_are}
use Rattle.action_conditions.proofs.Variables.{typed_many}
use Rattle.action_conditions.proofs.Stores.{on_gave}
use Rattle.action_conditions.proofs.Steady.{steady_proper}
use Rattle.condition_meaning.proofs.ScopedFits.{fits_shown}
use Rattle.condition_walks.proofs.Loops.{every_at}
use Rattle.machine_laws.proofs.Typed.{all_typed, typed_at}
use Rattle.machine_laws.proofs.Frames.{begin_frame}
use Rattle.method.proofs.Global.{both_and}
use Rattle.method.specs.Tables.{kind_of_variable, type_of_variable}
use Rattle.method.specs.Machine.{begin, begin_with, zeros_of}
use Rattle.method.specs.Machine as machine_turn
use Rattle.method.specs.Typing.{return_ok, fits as fits_type}
use Rattle.conditions.specs.Statements as walk_stmt
use Rattle.condition_walks.proofs.TermSorts.{code_sort}
use Rattle.condition_walks.proofs.ActionSorts.{fits_sort}
use Rattle.condition_walks.proofs.Fitting.{FitsReturn, LoopFits}
use Rattle.method.specs.LocalRuns.{Turns}
use Rattle.method.specs.Text.{row_sets}
use Rattle.condition_walks.proofs.Entry.{entry_values, entry_state, first_spot, values_heap}
use Rattle.method.specs.Actions.{clauses_hold}
use Rattle.terms.specs.declared.term.Kind.{Kind}
use Rattle.term_meaning.specs.Meaning.{Value as Meant, int_value, HeapValue}
use Rattle.term_meaning.specs.RawHeaps.{raw}
use Rattle.object_types.specs.References.{null as null_ref}
use Rattle.conditions.specs.Code.{new_heap}
use Rattle.conditions.specs.Statements.{empty_state}
use Rattle.object_types.specs.Sets.{some}
use Rattle.action_conditions.proofs.Annotated as annotated
use Rattle.action_conditions.proofs.Steady as steadily
use Rattle.condition_walks.proofs.Fitting.{ObjectFits, ActionFits}
use Rattle.method.specs.LocalRuns.{ActsTo}
use Rattle.conditions.specs.Actions as walk
use Rattle.method.specs.Expressions.{Gives, is_listed}
use Rattle.method.specs.Actions.{conversion_checks}
use Rattle.method.specs.LocalRuns as local_run
use Rattle.method.specs.LocalRuns.{Reaches}
use Rattle.method.specs.Text.{call_checks}
use Rattle.method.specs.declared.program.Stmt.TheVariants.{Call}
use Rattle.method.specs.declared.program.Receiver.TheVariants.{Nobody, NewVariable, Place as Left}
use Rattle.method.specs.declared.program.Target.TheVariants.{Local}
use Rattle.method.specs.Typing.{declared, only_if, convertible, converted_values}
use Rattle.machine_laws.proofs.Outcomes.{OnGave, after_gave, end_map}
use Rattle.machine_laws.proofs.Typed.{is_of, and_then_some, only_if_some, of_declared, convert_of}
use Rattle.machine_laws.proofs.Steps.{PlaceOk, ListedClosed, Fine, store_fine}
use Rattle.machine_laws.proofs.Simple.{takes_some, left_gave}
use Rattle.action_conditions.proofs.Stores.{stored_progress, store_tests, ends_store, store_tested, store_stated, storable_by}
use Rattle.action_conditions.proofs.Goes.{passes, fails}
use Rattle.conditions.proofs.Tests.{ends_failed}
use Rattle.condition_walks.proofs.Calls.{gave_is}
use Rattle.conditions.proofs.PathTests.{Tested as TestedAs}
use Rattle.condition_meaning.proofs.Walks.{Shown as ShownBy}
use Rattle.condition_walks.proofs.Fitting.{FitsOther}
use Rattle.condition_meaning.proofs.Walks.{Follows, Breaks}
use Rattle.conditions.proofs.Hiding.{after_stmt}
use Rattle.method.specs.declared.program.Stmt.TheVariants.{Do}
use Rattle.method.specs.Scopes.{Scoped}
use Rattle.method.specs.Machine.{requires_hold}
use Rattle.method.specs.LocalRuns.{FailsBody}
use Rattle.conditions.specs.Conditions.{function_conditions}
use Rattle.conditions.specs.Ways.{IsValidAt}
use Rattle.condition_walks.proofs.Fitting.{ConversionsAreReceived, TextBody}
use Rattle.condition_walks.proofs.Function as law
use Rattle.function_law.proofs.Texts.{SpecText, WrapText, PlainText, ActionText}
use Rattle.std.proofs.lemmas.List.{length-map}
use Rattle.method.specs.Tables.{has_fixed_owns}
use Rattle.conditions.specs.Quantified.{program_quantifiers, find_quantifier, members_quantified}
use Rattle.method.specs.declared.program.Target.{Target}
use Rattle.method.specs.declared.program.RightSide.{RightSide}
use Rattle.method.specs.declared.program.RightSide.TheVariants.{Compute, Malloc, NewClaim, Interlocked}
use Rattle.method.specs.declared.program.Simple.TheVariants.{Assign, ChangeOwned, EndClaim}
use Rattle.method.specs.declared.program.Action.TheVariants.{Simply, Declare, Define, WrapObject, UnwrapObject, AssertSpec, FreeObject, SpawnThread, Atomic}
use Rattle.condition_walks.proofs.Fitting.{FitsAction}
use Rattle.condition_walks.proofs.Scoping.{known_seen}
use Rattle.std.proofs.Common.{⊎_elim}

module _ (p : Program) (good : Annotated p) (typed : WellTyped p) (contracts : (n : ℕ) (g : FunctionInfo) → slice_get p.functions.items n ≡ Some g → ContractFits p g)
    (number : ℕ) (f : FunctionInfo) (fis : slice_get p.functions.items number ≡ Some f) (n0 : ℕ) (h0 : Heap) (args : List Value) (good0 : Good p h0) (fit : fit_parameters f args ≡ true)
  where
    abbrev pub l : Language
    l = language_of p

    abbrev pub T : Ref
    T = thread n0

    abbrev pub x : Context
    x = callee p number f T h0 args

    abbrev pub a : Spot
    a = entry_spot p f

    abbrev pub size : ℕ
    size = length f.variables.items

    abbrev pub Spotted : Environment l T → Type 0
    Spotted = SpotIs l T a x false []

    abbrev pub Matches : (ℕ → Bool) → Environment l T → State → Heap → runs.Values → Type 0
    Matches = runs.Matches (Environment l T) (Agree l T) (agree_self l T) (agree_then l T) (agree_less l T) (Holds l T) (Is l T) (Has l T) (HeapIs l T) (has_says l T) (holds_eq l T) (holds_same l T) (holds_all l T) (holds_first l T) (holds_second l T) (an_integer l T) (is_integer l T) (a_reference l T) (is_refers l T) (IsHeapOf p) (a_heap l T) (is_heap l T) size Spotted

    pub ranges_are : (ty : DeclaredType) (w : Formula) (v : Value) → in_type ty v ≡ true → (e : Environment l T) → Has l T e w v → AllHold (Environment l T) (Holds l T) e (ranges ty w)
    ranges_are ty w v typed e has = ranges_hold l T e ty w v typed has

    -- Rely and frame.

    pub good_is : (e : Environment l T) (u : Formula) (h : Heap) → HeapIs l T e u h → Good p h → Holds l T e (node kinds.Good (u ∷ []))
    good_is e u h is good = good_holds (record { has = is; proper = good.well_formed.heap_of }) good

    pub rely_is : (h k : Heap) (e : Environment l T) (u v : Formula) → IsHeapOf p h → IsHeapOf p k → Spotted e → HeapIs l T e u h → HeapIs l T e v k → Rely p x.me h k → Holds l T e (node kinds.Rely (me ∷ u ∷ v ∷ []))
    rely_is h k e u v ph pk s hu hv rely =
        node_holds (more (has_me l T e) (more hu (one hv))) (λ w d. d.holds (h, k, record { proper = ph; is = refl }, record { proper = pk; is = refl }, rely))

    -- Expressions.

    pub code_has : (hid : ℕ → Bool) (line n : ℕ) (c : Expr) (st : State) (h : Heap) (v : List Value) (w : Value) → FitsExpr p number f hid c → Steady p f h v → (eval p (spot x [] line) h v c n).end ≡ Gave w → (e : Environment l T) → Matches hid e st h (local v) → AllHold (Environment l T) (Holds l T) e (facts (code p a st c).path) × Stands l T e (code p a st c).gives w
    code_has hid line n c st h v w fits s gave e m =
        let here = spot x [] line in
        let z = (ends_gave (tests p here h v c) n (plain p here h v c) w (eval p here h v c n) (ends_eval p here h v c n) gave).1 in (
          (plainly.code_goes l typed T f x fis refl refl a hid line n c st h v fits s w gave e m).0,
          subst (λ (u : Value). Stands l T e (code p a st c).gives u) z (code_stands l typed T f a here refl refl refl hid e st (starting h v (Chosen [])) s (plainly.stated_of l typed T f x fis refl refl a [] line hid e st h v s m) c (fits_expr p number f hid c fits)),
        )

    pub test_has : (e : Environment l T) (w : Symbolic) (v : Value) → StandsFor (Is l T e) (Has l T e) w v → Is l T e (test w) (truth v)
    test_has e w v is = stands_test l T e w v is

    pub denied : (e : Environment l T) (g : Formula) → Is l T e g false → Holds l T e (not' g)
    denied e g is = holds_is l T e (not' g) (is_not l T e g false is)

    pub range_has : (c : CType) (w : Symbolic) (v : Value) (e : Environment l T) → StandsFor (Is l T e) (Has l T e) w v → Is l T e (in_range p a c (term w)) (machine_range.in_range c (int v))
    range_has c w v e is = is_in_range l T e c (term w) v (stands_term l T e w v is)

    -- Annotations.

    abbrev pub TextSpec : Spec → Type 0
    TextSpec e = SpecText p good number f fis e

    inv_one : (hid : ℕ → Bool) (e : Spec) (st : State) (h : Heap) (v : List Value) (is : List ℕ) → fitting.Seen p number f is hid → spec_in p f is e ≡ true → TextSpec e → AllSorted f.variables.items st.locals → Steady p f h v → (d : Environment l T) → Matches hid d st h (local v) → Is l T d (formula p e (place_scene a st)) (holds p e (scene x h v))
    inv_one hid e st h v is seen scoped text sorted s d m =
        notes.spec_told p good f x fis T refl a good0.well_formed.heap_of fit typed refl hid e st h v (record { passes = fits_shown p f is hid seen e false (function_words f) scoped text.passes; named = text.named; listed = text.listed }) sorted s d m

    specs_are : (hid : ℕ → Bool) (invs : List Spec) (st : State) (h : Heap) (v : List Value) (is : List ℕ) → fitting.Seen p number f is hid → every (spec_in p f is) invs ≡ true → (TA : Action → Type 0) (TO : ℕ → ℕ → Type 0) → AllText p number f TA TextSpec TO invs → AllSorted f.variables.items st.locals → Steady p f h v → (d : Environment l T) → Matches hid d st h (local v)
        → AllIs (Environment l T) (Holds l T) (Is l T) (holds_is l T) (is_false l T) d (invariant_formulas p f a invs st) (map (λ g. holds p g (scene x h v)) invs)
    specs_are hid [] st h v is seen scoped TA TO text sorted s d m = tt
    specs_are hid (e ∷ es) st h v is seen scoped TA TO text sorted s d m =
        let z = both_true (spec_in p f is e) (every (spec_in p f is) es) scoped in
        (inv_one hid e st h v is seen z.0 text.0 sorted s d m, specs_are hid es st h v is seen z.1 TA TO text.1 sorted s d m)

    pub inv_are : (TA : Action → Type 0) (TO : ℕ → ℕ → Type 0) (hid : ℕ → Bool) (invs : List Spec) (st : State) (h : Heap) (v : List Value) → SpecsFit p number f TA TextSpec TO hid invs → AllSorted f.variables.items st.locals → Steady p f h v → (d : Environment l T) → Matches hid d st h (local v)
        → AllIs (Environment l T) (Holds l T) (Is l T) (holds_is l T) (is_false l T) d (invariant_formulas p f a invs st) (map (λ g. holds p g (scene x h v)) invs)
    inv_are TA TO hid invs st h v fits sorted s d m = specs_are hid invs st h v fits.0.is fits.0.seen fits.0.scoped TA TO fits.1 sorted s d m

    -- A pointer's term stands for what it points to.
    pub pointer_refers : (hid : ℕ → Bool) (ok : ℕ → Bool) (line n : ℕ) (c : Expr) (st : State) (h : Heap) (v : List Value) (w : Value) → FitsExpr p number f hid c → is_pointer p f ok c ≡ true → Steady p f h v → (eval p (spot x [] line) h v c n).end ≡ Gave w → (e : Environment l T) → Matches hid e st h (local v) → Has l T e (term (code p a st c).gives) (Refers (referent w))
    pointer_refers hid ok line n c st h v w fits points s gave e m =
        let here = spot x [] line in
        let u = tested p f (values p f c) (point_to ok) points in
        let z = ends_gave (tests p here h v c) n (plain p here h v c) w (eval p here h v c n) (ends_eval p here h v c n) gave in
        subst (λ (b : Value). Has l T e (term (code p a st c).gives) (Refers (referent b))) z.1
        (code_refers l typed T f a here refl refl refl hid e st (starting h v (Chosen [])) s (plainly.stated_of l typed T f x fis refl refl a [] line hid e st h v s m) c (record { fits = record { values_are = u.0; typed = u.1; seen = (fits_expr p number f hid c fits).seen }; refers = points_ints ok u.0 u.2 }))

    -- References of a writes list.
    pub list_has : (e : Environment l T) (fs : List Formula) (rs : List Ref) → Refer l T e fs rs → HaveAll l e.env (row fs) (map ref_value rs)
    list_has e [] [] s = none
    list_has e [] (r ∷ rs) s = absurd s
    list_has e (f ∷ fs) [] s = absurd s
    list_has e (f ∷ fs) (r ∷ rs) s = more s.0 (list_has e fs rs s.1)

    pub frame_of : (h k b : Heap) (ws : List Formula) (rs : List Ref) (e : Environment l T) (u v w : Formula) → IsHeapOf p h → IsHeapOf p k → IsHeapOf p b → HeapIs l T e u h → HeapIs l T e v k → HeapIs l T e w b → Refer l T e ws rs → Frame p T h k b rs → Holds l T e (node kinds.Frame (me ∷ u ∷ v ∷ w ∷ ws))
    frame_of h k b ws rs e u v w ph pk pb hu hv hw refer frame =
        node_holds (more (has_me l T e) (more hu (more hv (more hw (list_has e ws rs refer)))))
        (λ y d. d.holds (h, k, b, record { proper = ph; is = refl }, record { proper = pk; is = refl }, record { proper = pb; is = refl }, subst (λ qs. Frame p T h k b qs) (sym (references_back rs)) frame))

    pub frame_is : (h k : Heap) (e : Environment l T) (u v : Formula) → IsHeapOf p h → IsHeapOf p k → Spotted e → HeapIs l T e u h → HeapIs l T e v k → Frame p x.me h k x.entry x.writes → Holds l T e (node kinds.Frame (me ∷ u ∷ v ∷ a.entry ∷ a.writes))
    frame_is h k e u v ph pk s hu hv frame = frame_of h k h0 a.writes x.writes e u v a.entry ph pk good0.well_formed.heap_of hu hv s.entry s.writes frame

    pub size_is : (h : Heap) (v : List Value) → Steady p f h v → length v ≡ size
    size_is h v s = typed_many f.variables.items v s.locals

    pub zero_is : (e : Environment l T) → Has l T e (nat 0) (Int (pos 0))
    zero_is e = has_int l T e (pos 0)

    -- Contracts.

    abbrev pub Standing : Environment l T → List Symbolic → List Value → Type 0
    Standing = calls.AllStand (Environment l T) (Agree l T) (agree_self l T) (agree_then l T) (agree_less l T) (Holds l T) (Is l T) (Has l T) (HeapIs l T) (has_says l T) (holds_eq l T) (holds_same l T) (holds_all l T) (holds_first l T) (holds_second l T) (an_integer l T) (is_integer l T) (a_reference l T) (is_refers l T) (IsHeapOf p) (a_heap l T) (is_heap l T) size Spotted (holds_is l T) (is_false l T) ranges_are

    arguments_are : (e : Environment l T) (ws : List Symbolic) (vs : List Value) → Standing e ws vs → Args l e.env ws vs
    arguments_are e [] [] s = record { size = refl; each = λ i. none_at i }
      where
        none_at : (i : ℕ) → StandsFor (Is l T e) (Has l T e) (symbolic_at [] i) (local [] i)
        none_at zero = (pos 0, has_int l T e (pos 0), refl)
        none_at (suc i) = (pos 0, has_int l T e (pos 0), refl)
    arguments_are e [] (v ∷ vs) s = absurd s
    arguments_are e (w ∷ ws) [] s = absurd s
    arguments_are e (w ∷ ws) (v ∷ vs) s = let r = arguments_are e ws vs s.1 in record { size = ap suc r.size; each = λ i. one_at r i }
      where
        one_at : Args l e.env ws vs → (i : ℕ) → StandsFor (Is l T e) (Has l T e) (symbolic_at (w ∷ ws) i) (local (v ∷ vs) i)
        one_at r zero = s.0
        one_at r (suc i) = r.each i

    each_all : (e : Environment l T) (fs : List Formula) (bs : List Bool) → EachIs l e.env fs bs → AllIs (Environment l T) (Holds l T) (Is l T) (holds_is l T) (is_false l T) e fs bs
    each_all e [] [] s = tt
    each_all e [] (b ∷ bs) s = absurd s
    each_all e (f ∷ fs) [] s = absurd s
    each_all e (f ∷ fs) (b ∷ bs) s = (s.0, each_all e fs bs s.1)

    refer_are : (e : Environment l T) (fs : List Formula) (rs : List Ref) → AreRefs l e.env fs rs → Refer l T e fs rs
    refer_are e [] [] s = tt
    refer_are e [] (r ∷ rs) s = absurd s
    refer_are e (f ∷ fs) [] s = absurd s
    refer_are e (f ∷ fs) (r ∷ rs) s = (s.0, refer_are e fs rs s.1)

    are_refer : (e : Environment l T) (fs : List Formula) (rs : List Ref) → Refer l T e fs rs → AreRefs l e.env fs rs
    are_refer e [] [] s = tt
    are_refer e [] (r ∷ rs) s = absurd s
    are_refer e (f ∷ fs) [] s = absurd s
    are_refer e (f ∷ fs) (r ∷ rs) s = (s.0, are_refer e fs rs s.1)

    -- arguments of a call are of the parameters' types
    args_fit : (hid : ℕ → Bool) (line : ℕ) (to : Receiver) (c : Option CType) (q : ℕ) (es : Vec Expr Global) (n : ℕ) (h : Heap) (v : List Value) (g : FunctionInfo) (vs : List Value) (pl : Option act.Place) → calls.Called (Environment l T) (Agree l T) (agree_self l T) (agree_then l T) (agree_less l T) (Holds l T) (Is l T) (Has l T) (HeapIs l T) (has_says l T) (holds_eq l T) (holds_same l T) (holds_all l T) (holds_first l T) (holds_second l T) (an_integer l T) (is_integer l T) (a_reference l T) (is_refers l T) (IsHeapOf p) (a_heap l T) (is_heap l T) size Spotted (holds_is l T) (is_false l T) ranges_are zero_is p number x f a (Steady p f) (steady_proper p f) size_is code_has pointer_refers range_has hid line to c q es n h v g vs pl → fit_parameters g vs ≡ true
    args_fit hid line to c q es n h v g vs pl called =
        let o = both_true (call_ok p f (slice_get p.functions.items q) es.items) (receiver_ok p f to (result_values p f (slice_get p.functions.items q) c)) called.fits.typed in
        on_gave (eval_all p (spot x [] line) h v es.items (n + receiver_checks to)) (λ vs. fit_parameters g vs ≡ true) vs
        (call_args p typed f (spot x [] line) refl (starting h v (Chosen [])) called.steady g es.items (n + receiver_checks to) (subst (λ u. call_ok p f u es.items ≡ true) called.there o.0)) called.args_gave

    pub requires_are_so : (hid : ℕ → Bool) (line : ℕ) (to : Receiver) (c : Option CType) (q : ℕ) (es : Vec Expr Global) (n : ℕ) (h : Heap) (v : List Value) (g : FunctionInfo) (vs : List Value) (pl : Option act.Place) (st : State) (ws : List Symbolic) → calls.Called (Environment l T) (Agree l T) (agree_self l T) (agree_then l T) (agree_less l T) (Holds l T) (Is l T) (Has l T) (HeapIs l T) (has_says l T) (holds_eq l T) (holds_same l T) (holds_all l T) (holds_first l T) (holds_second l T) (an_integer l T) (is_integer l T) (a_reference l T) (is_refers l T) (IsHeapOf p) (a_heap l T) (is_heap l T) size Spotted (holds_is l T) (is_false l T) ranges_are zero_is p number x f a (Steady p f) (steady_proper p f) size_is code_has pointer_refers range_has hid line to c q es n h v g vs pl → (e : Environment l T) → Matches hid e st h (local v) → Standing e ws vs → AllIs (Environment l T) (Holds l T) (Is l T) (holds_is l T) (is_false l T) e (clauses p a g.requires_.items (term_call me st.heap ws)) (map (λ d. holds p d.spec (call_scene x.me h vs)) g.requires_.items)
    requires_are_so hid line to c q es n h v g vs pl st ws called e m stand =
        each_all e (clauses p a g.requires_.items (term_call me st.heap ws)) (map (λ d. holds p d.spec (call_scene x.me h vs)) g.requires_.items)
        (requires_are p good q g called.there e.env (contracts q g called.there) me st.heap T h ws vs (args_fit hid line to c q es n h v g vs pl called) m.heap called.steady.heap.heap_of (has_me l T e) (arguments_are e ws vs stand))

    items_refer : (hid : ℕ → Bool) (line : ℕ) (to : Receiver) (c : Option CType) (q : ℕ) (es : Vec Expr Global) (n : ℕ) (h : Heap) (v : List Value) (g : FunctionInfo) (vs : List Value) (pl : Option act.Place) (st : State) (ws : List Symbolic) → calls.Called (Environment l T) (Agree l T) (agree_self l T) (agree_then l T) (agree_less l T) (Holds l T) (Is l T) (Has l T) (HeapIs l T) (has_says l T) (holds_eq l T) (holds_same l T) (holds_all l T) (holds_first l T) (holds_second l T) (an_integer l T) (is_integer l T) (a_reference l T) (is_refers l T) (IsHeapOf p) (a_heap l T) (is_heap l T) size Spotted (holds_is l T) (is_false l T) ranges_are zero_is p number x f a (Steady p f) (steady_proper p f) size_is code_has pointer_refers range_has hid line to c q es n h v g vs pl → (e : Environment l T) → Matches hid e st h (local v) → Standing e ws vs → AreRefs l e.env (items_of p a g.writes.items (term_call me st.heap ws)) (act.items_of p g.writes.items (call_scene x.me h vs))
    items_refer hid line to c q es n h v g vs pl st ws called e m stand = writes_are p good q g called.there e.env (contracts q g called.there) me st.heap T h ws vs (args_fit hid line to c q es n h v g vs pl called) m.heap called.steady.heap.heap_of (has_me l T e) (arguments_are e ws vs stand)

    -- each item of a writes list may be written, or not
    writable_are : (line : ℕ) (sc : _) (tc : _) (e : Environment l T) → SpotIs l T a x false [] e → (specs : List Spec) → AreRefs l e.env (items_of p a specs tc) (act.items_of p specs sc)
        → AllIs (Environment l T) (Holds l T) (Is l T) (holds_is l T) (is_false l T) e (map (λ o. writable p a o) (items_of p a specs tc)) (map (λ (z : Tested). z.holds) (item_tests p (may_write (spot x [] line)) specs sc))
    writable_are line sc tc e s [] r = tt
    writable_are line sc tc e s (d ∷ ds) r =
        (is_writable l e.env a.entry x.entry s.entry (term (translate p d tc)) me (referent (value p d sc)) T a.writes x.writes (are_refer e a.writes x.writes s.writes) r.0 (has_me l T e), writable_are line sc tc e s ds r.1)

    pub writes_are_so : (hid : ℕ → Bool) (line : ℕ) (to : Receiver) (c : Option CType) (q : ℕ) (es : Vec Expr Global) (n : ℕ) (h : Heap) (v : List Value) (g : FunctionInfo) (vs : List Value) (pl : Option act.Place) (st : State) (ws : List Symbolic) → calls.Called (Environment l T) (Agree l T) (agree_self l T) (agree_then l T) (agree_less l T) (Holds l T) (Is l T) (Has l T) (HeapIs l T) (has_says l T) (holds_eq l T) (holds_same l T) (holds_all l T) (holds_first l T) (holds_second l T) (an_integer l T) (is_integer l T) (a_reference l T) (is_refers l T) (IsHeapOf p) (a_heap l T) (is_heap l T) size Spotted (holds_is l T) (is_false l T) ranges_are zero_is p number x f a (Steady p f) (steady_proper p f) size_is code_has pointer_refers range_has hid line to c q es n h v g vs pl → (e : Environment l T) → Matches hid e st h (local v) → Standing e ws vs → AllIs (Environment l T) (Holds l T) (Is l T) (holds_is l T) (is_false l T) e (map (λ o. writable p a o) (items_of p a g.writes.items (term_call me st.heap ws))) (map (λ (z : Tested). z.holds) (item_tests p (may_write (spot x [] line)) g.writes.items (call_scene x.me h vs)))
    writes_are_so hid line to c q es n h v g vs pl st ws called e m stand = writable_are line (call_scene x.me h vs) (term_call me st.heap ws) e m.spot g.writes.items (items_refer hid line to c q es n h v g vs pl st ws called e m stand)

    pub call_frame : (hid : ℕ → Bool) (line : ℕ) (to : Receiver) (c : Option CType) (q : ℕ) (es : Vec Expr Global) (n : ℕ) (h : Heap) (v : List Value) (g : FunctionInfo) (vs : List Value) (pl : Option act.Place) (st : State) (ws : List Symbolic) (k : Heap) (u : Formula) → calls.Called (Environment l T) (Agree l T) (agree_self l T) (agree_then l T) (agree_less l T) (Holds l T) (Is l T) (Has l T) (HeapIs l T) (has_says l T) (holds_eq l T) (holds_same l T) (holds_all l T) (holds_first l T) (holds_second l T) (an_integer l T) (is_integer l T) (a_reference l T) (is_refers l T) (IsHeapOf p) (a_heap l T) (is_heap l T) size Spotted (holds_is l T) (is_false l T) ranges_are zero_is p number x f a (Steady p f) (steady_proper p f) size_is code_has pointer_refers range_has hid line to c q es n h v g vs pl → (e : Environment l T) → Matches hid e st h (local v) → Standing e ws vs → IsHeapOf p k → HeapIs l T e u k → Frame p x.me h k h (callee p q g x.me h vs).writes → Holds l T e (node kinds.Frame (me ∷ st.heap ∷ u ∷ st.heap ∷ items_of p a g.writes.items (term_call me st.heap ws)))
    call_frame hid line to c q es n h v g vs pl st ws k u called e m stand proper is frame =
        let ph = called.steady.heap.heap_of in
        frame_of h k h (items_of p a g.writes.items (term_call me st.heap ws)) (callee p q g x.me h vs).writes e st.heap u st.heap ph proper ph m.heap is m.heap (refer_are e (items_of p a g.writes.items (term_call me st.heap ws)) (act.items_of p g.writes.items (call_scene x.me h vs)) (items_refer hid line to c q es n h v g vs pl st ws called e m stand)) frame

    pub code_fails : (label : ℕ) (hid : ℕ → Bool) (line n : ℕ) (c : Expr) (st : State) (h : Heap) (v : List Value) → FitsExpr p number f hid c → Steady p f h v → FailsAt label (eval p (spot x [] line) h v c n) → (e : Environment l T) → Matches hid e st h (local v) → FailsIn (Environment l T) (Holds l T) label n (code p a st c).path e
    code_fails label hid line n c st h v fits s fails e m = plainly.code_breaks l typed T f x fis refl refl a hid line n c st h v fits s label fails e m

    -- What a callee gives.

    abbrev Came : (ℕ → Bool) → ℕ → Receiver → Option CType → ℕ → Vec Expr Global → ℕ → Heap → List Value → FunctionInfo → List Value → Option act.Place → Type 0
    Came hid line to c q es n h v g vs pl = calls.Called (Environment l T) (Agree l T) (agree_self l T) (agree_then l T) (agree_less l T) (Holds l T) (Is l T) (Has l T) (HeapIs l T) (has_says l T) (holds_eq l T) (holds_same l T) (holds_all l T) (holds_first l T) (holds_second l T) (an_integer l T) (is_integer l T) (a_reference l T) (is_refers l T) (IsHeapOf p) (a_heap l T) (is_heap l T) size Spotted (holds_is l T) (is_false l T) ranges_are zero_is p number x f a (Steady p f) (steady_proper p f) size_is code_has pointer_refers range_has hid line to c q es n h v g vs pl

    abbrev calling : ℕ → Heap → FunctionInfo → List Value → Option act.Place → Calling
    calling q h g vs pl = record { place = pl; info = g; context = callee p q g x.me h vs }

    pub answers_steady : (hid : ℕ → Bool) (line : ℕ) (to : Receiver) (c : Option CType) (q : ℕ) (es : Vec Expr Global) (n : ℕ) (h : Heap) (v : List Value) (g : FunctionInfo) (vs : List Value) (pl : Option act.Place) (k : Heap) (r : Value) → Came hid line to c q es n h v g vs pl → Answers p x f (calling q h g vs pl) h k r → Steady p f k v
    answers_steady hid line to c q es n h v g vs pl k r called ans = record { heap = ans.frame.after.well_formed; types = called.steady.types; locals = called.steady.locals }

    zero_value : (r : Value) → of_type None r ≡ true → is_value r ≡ true
    zero_value (Int z) h = refl
    zero_value (Refers r) h = absurd (cc)

    pub result_named : (hid : ℕ → Bool) (line : ℕ) (to : Receiver) (c : Option CType) (q : ℕ) (es : Vec Expr Global) (n : ℕ) (h : Heap) (v : List Value) (g : FunctionInfo) (vs : List Value) (pl : Option act.Place) (k : Heap) (r : Value) → Came hid line to c q es n h v g vs pl → Answers p x f (calling q h g vs pl) h k r → is_value r ≡ true
    result_named hid line to c q es n h v g vs pl k r called ans = by g.result refl ans.range
      where
        by : (o : Option DeclaredType) → g.result ≡ o → of_type o r ≡ true → is_value r ≡ true
        by None e range = zero_value r range
        by (Some ty) e range = value_of_type p ty r (typed.result_types q g ty called.there e) range

    result_sort : (e : Environment l T) (o : Option DeclaredType) (w : Symbolic) (r : Value) → of_type o r ≡ true → StandsFor (Is l T e) (Has l T e) w r → is_ref w ≡ is_ref (any_result o)
    result_sort e None (Truth b) r h s = refl
    result_sort e None (Number b) r h s = refl
    result_sort e None (Reference b) r h s = absurd (let z = subst (λ u. of_type None u ≡ true) s.2 h in cc)
    result_sort e (Some ty) w r h s = sort_by_type l e.env w r ty s h

    pub ensures_are_so : (hid : ℕ → Bool) (line : ℕ) (to : Receiver) (c : Option CType) (q : ℕ) (es : Vec Expr Global) (n : ℕ) (h : Heap) (v : List Value) (g : FunctionInfo) (vs : List Value) (pl : Option act.Place) (st : State) (ws : List Symbolic) (k : Heap) (u : Formula) (r : Value) (w : Symbolic) → Came hid line to c q es n h v g vs pl → Answers p x f (calling q h g vs pl) h k r → (e : Environment l T) → Matches hid e st h (local v) → Standing e ws vs → HeapIs l T e u k → StandsFor (Is l T e) (Has l T e) w r → AllIs (Environment l T) (Holds l T) (Is l T) (holds_is l T) (is_false l T) e (clauses p a g.ensures_.items (term_return st.heap ws u w)) (map (λ d. holds p d.spec (return_scene (callee p q g x.me h vs) k r)) g.ensures_.items)
    ensures_are_so hid line to c q es n h v g vs pl st ws k u r w called ans e m stand is given =
        each_all e (clauses p a g.ensures_.items (term_return st.heap ws u w)) (map (λ d. holds p d.spec (return_scene (callee p q g x.me h vs) k r)) g.ensures_.items)
        (ensures_are p good q g called.there e.env (contracts q g called.there) st.heap u (callee p q g x.me h vs) k ws w r (args_fit hid line to c q es n h v g vs pl called) (result_sort e g.result w r ans.range given) m.heap called.steady.heap.heap_of is ans.frame.after.well_formed.heap_of (has_me l T e) (arguments_are e ws vs stand) given)

    -- At a return.

    pub stand_so : (e : Environment l T) (ws : List Symbolic) (vs : List Value) → AllStand l T e ws vs → Standing e ws vs
    stand_so e [] [] s = tt
    stand_so e [] (v ∷ vs) s = absurd s
    stand_so e (w ∷ ws) [] s = absurd s
    stand_so e (w ∷ ws) (v ∷ vs) s = (s.0, stand_so e ws vs s.1)

    so_stand : (e : Environment l T) (ws : List Symbolic) (vs : List Value) → Standing e ws vs → AllStand l T e ws vs
    so_stand e [] [] s = tt
    so_stand e [] (v ∷ vs) s = absurd s
    so_stand e (w ∷ ws) [] s = absurd s
    so_stand e (w ∷ ws) (v ∷ vs) s = (s.0, so_stand e ws vs s.1)

    sort_returned : (hid : ℕ → Bool) (o : Option DeclaredType) (c : Option Expr) (st : State) → AllSorted f.variables.items st.locals → return_ok p f o c ≡ true → is_ref (walk_stmt.value_of p f a c st).gives ≡ is_ref (any_result o)
    sort_returned hid None None st sorted ok = refl
    sort_returned hid None (Some c) st sorted ok = absurd (cc)
    sort_returned hid (Some ty) None st sorted ok = absurd (cc)
    sort_returned hid (Some ty) (Some c) st sorted ok =
        let u = tested p f (values p f c) (λ u. fits_type u ty) ok in
        notes.same_sort ty (code p a st c).gives (code_sort p f a st sorted c u.0 u.1 ∙ fits_sort u.0 ty u.2)

    pub leaves_are : (label : ℕ) (hid : ℕ → Bool) (line n : ℕ) (c : Option Expr) (st : State) (h : Heap) (v : List Value) (r : Value) → FitsReturn p number f hid c → AllSorted f.variables.items st.locals → Steady p f h v → (machine_turn.value_of p (spot x [] line) c h v n).end ≡ Gave r → (e : Environment l T) → Matches hid e st h (local v) → StandsFor (Is l T e) (Has l T e) (walk_stmt.value_of p f a c st).gives r
        → AllIs (Environment l T) (Holds l T) (Is l T) (holds_is l T) (is_false l T) e (clauses p a f.ensures_.items (term_return a.entry a.args st.heap (walk_stmt.value_of p f a c st).gives)) (map (λ d. holds p d.spec (return_scene x h r)) f.ensures_.items)
    leaves_are label hid line n c st h v r fits sorted s gave e m given =
        let w = (walk_stmt.value_of p f a c st).gives in
        each_all e (clauses p a f.ensures_.items (term_return a.entry a.args st.heap w)) (map (λ d. holds p d.spec (return_scene x h r)) f.ensures_.items)
        (ensures_are p good number f fis e.env (contracts number f fis) a.entry st.heap x h a.args w r fit (sort_returned hid f.result c st sorted fits.typed) m.spot.entry good0.well_formed.heap_of m.heap s.heap.heap_of (has_me l T e) (arguments_are e a.args x.args (stand_so e a.args x.args m.spot.args)) given)

    -- Turns of loops, the entry.

    all_typed_from : (vs : List VariableInfo) (w : List Value) → length w ≡ length vs → ((i : ℕ) (y : VariableInfo) → slice_get vs i ≡ Some y → in_type y.ty (local w i) ≡ true) → all_typed vs w ≡ true
    all_typed_from [] [] many each = refl
    all_typed_from [] (u ∷ us) many each = absurd (cc)
    all_typed_from (y ∷ ys) [] many each = absurd (cc)
    all_typed_from (y ∷ ys) (u ∷ us) many each = both_and (in_type y.ty u) (all_typed ys us) (each 0 y refl) (all_typed_from ys us (omega (arith, many)) (λ i z is. each (suc i) z is))

    pub turns_steady : (TA : Action → Type 0) (TO : ℕ → ℕ → Type 0) (hid : ℕ → Bool) (invs : List Spec) (m : _) (row : Row_of-Stmt m) (h k : Heap) (v w : List Value) → LoopFits p number f TA TextSpec TO hid invs m row → Steady p f h v → Turns p x f invs (row_sets row) h k v w → Steady p f k w
    turns_steady TA TO hid invs m row h k v w fits s t = record {
      heap = t.frame.after.well_formed;
      types = s.types;
      locals = all_typed_from f.variables.items w (t.havoc.size ∙ size_is h v s) (λ i y is. by i y is (some (λ j. j == i) (row_sets row)) refl);
    }
      where
        by : (i : ℕ) (y : VariableInfo) → slice_get f.variables.items i ≡ Some y → (b : Bool) → some (λ j. j == i) (row_sets row) ≡ b → in_type y.ty (local w i) ≡ true
        by i y is true e = subst (λ o. in_type (kind_of_variable o) (local w i) ≡ true) is (every_at (λ i. in_type (type_of_variable f i) (local w i)) (row_sets row) i t.havoc.ranges e)
        by i y is false e = subst (λ (u : Value). in_type y.ty u ≡ true) (sym (t.havoc.others i e)) (typed_at f.variables.items v i y s.locals is)

    pub entry_steady : Good p h0 → IsTrue (fit_parameters f args) → Steady p f h0 (args ++ zeros_of (drop f.parameters f.variables.items))
    entry_steady g fits =
        let z = begin_frame p typed T x refl (record { info = f; is = fis; thread = refl; args = fits }) in
        record {
          heap = g.well_formed;
          types = typed.variable_types number f fis;
          locals = subst (λ o. all_typed f.variables.items (begin_with o x).locals ≡ true) fis (subst (λ (g : FunctionInfo). all_typed g.variables.items (begin p x).locals ≡ true) z.1 z.0.locals);
        }

    pub spotted : (e : Environment l T) → HeapIs l T e (heap 0) h0 → Standing e (entry_values f).values args → Spotted e
    spotted e is stand = record {
      entry = is;
      writes = refer_are e a.writes x.writes (writes_are p good number f fis e.env (contracts number f fis) me (entry_state f).heap T h0 (entry_values f).values args fit (subst (λ u. HeapIs l T e u h0) (sym (values_heap (take f.parameters f.variables.items) (new_heap empty_state))) is) good0.well_formed.heap_of (has_me l T e) (arguments_are e (entry_values f).values args stand));
      args = so_stand e (entry_values f).values args stand;
      inside_is = refl;
      listed_is = tt;
    }

    pub entry_are : (e : Environment l T) → HeapIs l T e (entry_state f).heap h0 → Standing e (entry_values f).values args → AllIs (Environment l T) (Holds l T) (Is l T) (holds_is l T) (is_false l T) e (clauses p (first_spot p f) f.requires_.items (term_call me (entry_state f).heap (entry_values f).values)) (clauses_hold p f.requires_.items (call_scene T h0 args))
    entry_are e is stand =
        each_all e (clauses p (first_spot p f) f.requires_.items (term_call me (entry_state f).heap (entry_values f).values)) (clauses_hold p f.requires_.items (call_scene T h0 args))
        (requires_are p good number f fis e.env (contracts number f fis) me (entry_state f).heap T h0 (entry_values f).values args fit is good0.well_formed.heap_of (has_me l T e) (arguments_are e (entry_values f).values args stand))

    plain_constants : Kind → ℤ → Meant
    plain_constants kinds.Ci m = int_value (pos 0)
    plain_constants kinds.Cr m = ref_value null_ref
    plain_constants kinds.Ch m = HeapValue (raw p h0)
    plain_constants kind m = int_value (pos 0)

    pub an_environment : Environment l T
    unfolding plain_constants
    an_environment = record {
      env = record { me = T; constant = plain_constants };
      is_env = record { me = refl; integers = λ m. (pos 0, refl); references = λ m. (null_ref, refl, refl); heaps = λ m. (h0, raw p h0, refl, record { proper = good0.well_formed.heap_of; is = refl }) };
      me = refl;
    }

    -- Objects that are unwrapped and wrapped.

    abbrev pub FitsWrap : ℕ → ℕ → Type 0
    FitsWrap ty q = WrapText p f ty q

    pub wrap_of : (ty q : ℕ) → WrapText p f ty q → annotated.FitsWrap p good typed f x fis T refl refl a good0.well_formed.heap_of fit ty q
    wrap_of ty q w = record {
      numbered = subst (λ n. find_quantifier q (program_quantifiers p) ≡ Some (members_quantified (has_fixed_owns p ty) q n)) (sym (length-map f.writes.items (λ e. referent (value p e (call_scene T h0 args))))) w.numbered;
      names = w.names;
    }

    abbrev ObjectHere : (TA : Action → Type 0) → ℕ → ℕ → Expr → Type 0
    ObjectHere TA ty q c = ObjectFits p number f TA TextSpec FitsWrap ty q c

    pub object_typed : (TA : Action → Type 0) (hid : ℕ → Bool) (ty q line n : ℕ) (c : Expr) (h : Heap) (v : List Value) (r : Value) → FitsExpr p number f hid c → ObjectHere TA ty q c → Steady p f h v → (eval p (spot x [] line) h v c n).end ≡ Gave r → in_type (Pointer ty) r ≡ true
    object_typed TA hid ty q line n c h v r fits object s gave = plainly.object_typed l typed T f x fis refl refl a hid ty line n c h v r fits object.0.typed s gave

    pub act_steady : (TA : Action → Type 0) (TO : ℕ → ℕ → Type 0) (hid : ℕ → Bool) (line n : ℕ) (c : Action) (choices : List Value) (news : List Ref) (h h' : Heap) (v v' : List Value) → ActionFits p number f TA TextSpec TO hid c → Steady p f h v → ActsTo p x f (act.act p x choices (Chosen news) line c n h v) h' v' → Steady p f h' v'
    act_steady TA TO hid line n c choices news h h' v v' fits s r = steadily.act_steady p typed f x fis refl line n c choices news h h' v v' fits.0.typed s r

    pub unwrap_steady : (TA : Action → Type 0) (ty q line n : ℕ) (c : Expr) (r : Ref) (h h' : Heap) (v v' : List Value) → ObjectHere TA ty q c → in_type (Pointer ty) (Refers r) ≡ true → Steady p f h v → ActsTo p x f (act.unwrap_object p (spot x [] line) r n (starting h v (Chosen []))) h' v' → Steady p f h' v'
    unwrap_steady TA ty q line n c r h h' v v' object in_it s acts = steadily.unwrap_steady p typed f x fis refl ty line n r h h' v v' object.0.struct in_it s acts

    pub wrap_steady : (TA : Action → Type 0) (ty q line n : ℕ) (c : Expr) (r : Ref) (h h' : Heap) (v v' : List Value) → ObjectHere TA ty q c → in_type (Pointer ty) (Refers r) ≡ true → Steady p f h v → ActsTo p x f (act.wrap_object p (spot x [] line) ty r n (starting h v (Chosen []))) h' v' → Steady p f h' v'
    wrap_steady TA ty q line n c r h h' v v' object in_it s acts = steadily.wrap_steady p typed f x fis refl ty line n r h h' v v' object.0.struct in_it s acts

    pub unwrap_goes : (TA : Action → Type 0) (hid : ℕ → Bool) (ty q line n : ℕ) (c : Expr) (o : Formula) (r : Ref) (st : State) (h h' : Heap) (v v' : List Value) → ObjectHere TA ty q c → in_type (Pointer ty) (Refers r) ≡ true → Steady p f h v → ActsTo p x f (act.unwrap_object p (spot x [] line) r n (starting h v (Chosen []))) h' v' → (e : Environment l T) → Has l T e o (Refers r) → Matches hid e st h (local v) → AllHold (Environment l T) (Holds l T) e (facts (walk.unwrap_object p a o st).path) × Matches hid e (walk.unwrap_object p a o st).gives h' (local v')
    unwrap_goes TA hid ty q line n c o r st h h' v v' object in_it s acts e has m = annotated.unwrap_goes p good typed f x fis T refl refl a good0.well_formed.heap_of fit hid ty line n o r st h v object.0.struct in_it s h' v' acts e has m

    pub unwrap_fails : (TA : Action → Type 0) (label : ℕ) (hid : ℕ → Bool) (ty q line n : ℕ) (c : Expr) (o : Formula) (r : Ref) (st : State) (h : Heap) (v : List Value) → ObjectHere TA ty q c → in_type (Pointer ty) (Refers r) ≡ true → Steady p f h v → FailsAt label (act.unwrap_object p (spot x [] line) r n (starting h v (Chosen []))) → (e : Environment l T) → Has l T e o (Refers r) → Matches hid e st h (local v) → FailsIn (Environment l T) (Holds l T) label n (walk.unwrap_object p a o st).path e
    unwrap_fails TA label hid ty q line n c o r st h v object in_it s fails e has m = annotated.unwrap_fails p good typed f x fis T refl refl a good0.well_formed.heap_of fit hid ty line n o r st h v object.0.struct in_it s label fails e has m

    pub wrap_goes : (TA : Action → Type 0) (hid : ℕ → Bool) (ty q line n : ℕ) (c : Expr) (o : Formula) (r : Ref) (st : State) (h h' : Heap) (v v' : List Value) → ObjectHere TA ty q c → in_type (Pointer ty) (Refers r) ≡ true → Steady p f h v → ActsTo p x f (act.wrap_object p (spot x [] line) ty r n (starting h v (Chosen []))) h' v' → (e : Environment l T) → Has l T e o (Refers r) → Matches hid e st h (local v) → AllHold (Environment l T) (Holds l T) e (facts (walk.wrap_object p a ty q o st).path) × Matches hid e (walk.wrap_object p a ty q o st).gives h' (local v')
    wrap_goes TA hid ty q line n c o r st h h' v v' object in_it s acts e has m = annotated.wrap_goes p good typed f x fis T refl refl a good0.well_formed.heap_of fit hid ty line n o r st h v object.0.struct in_it s q (wrap_of ty q object.1) h' v' acts e has m

    pub wrap_fails : (TA : Action → Type 0) (label : ℕ) (hid : ℕ → Bool) (ty q line n : ℕ) (c : Expr) (o : Formula) (r : Ref) (st : State) (h : Heap) (v : List Value) → ObjectHere TA ty q c → in_type (Pointer ty) (Refers r) ≡ true → Steady p f h v → FailsAt label (act.wrap_object p (spot x [] line) ty r n (starting h v (Chosen []))) → (e : Environment l T) → Has l T e o (Refers r) → Matches hid e st h (local v) → FailsIn (Environment l T) (Holds l T) label n (walk.wrap_object p a ty q o st).path e
    wrap_fails TA label hid ty q line n c o r st h v object in_it s fails e has m = annotated.wrap_fails p good typed f x fis T refl refl a good0.well_formed.heap_of fit hid ty line n o r st h v object.0.struct in_it s q (wrap_of ty q object.1) label fails e has m

    -- Where a call's value goes.

    abbrev PlaceHere : ℕ → act.Place → Values → Type 0
    PlaceHere line place vs = PlaceOk p typed f (spot x [] line) refl place vs

    abbrev Placed : ℕ → Option Values → Option act.Place → Type 0
    Placed line o None = Unit {0}
    Placed line o (Some place) = (vs : Values) × (o ≡ Some vs) × PlaceHere line place vs

    received_ok : (to : Receiver) (o : Option Values) (line n : ℕ) (h : Heap) (v : List Value) → Steady p f h v → receiver_ok p f to o ≡ true → OnGave (machine_turn.received p to (spot x [] line) n (starting h v (Chosen []))) (Placed line o)
    received_ok Nobody o line n h v s ok = tt
    received_ok (NewVariable i) o line n h v s ok =
        let z = takes_some p typed f (spot x [] line) refl (Local i) o ok in
        (z.0, z.1, left_gave p typed f (spot x [] line) refl (starting h v (Chosen [])) s (Local i) z.0 n z.2)
    received_ok (Left t) o line n h v s ok =
        let z = takes_some p typed f (spot x [] line) refl t o ok in
        after_gave (act.left_side p (spot x [] line) t n (starting h v (Chosen []))) (λ place. Gives (Some place)) (λ place. PlaceHere line place z.0) (Placed line o)
        (left_gave p typed f (spot x [] line) refl (starting h v (Chosen [])) s t z.0 n z.2) (λ place k. (z.0, z.1, k))

    converts : (line n : ℕ) (k : Heap) (v : List Value) (q : ℕ) (g : FunctionInfo) (c : Option CType) (r : Value) (vs : Values) → Steady p f k v → slice_get p.functions.items q ≡ Some g → result_values p f (Some g) c ≡ Some vs → of_type g.result r ≡ true → OnGave (act.convert_to (spot x [] line) c r n) (λ w. is_of p vs w ≡ true)
    converts line n k v q g c r vs s there is range =
        let b = and_then_some g.result (λ ty. only_if (convertible p f c (declared ty)) (converted_values p f c (declared ty))) vs is in
        let d = only_if_some (convertible p f c (declared b.first)) (converted_values p f c (declared b.first)) vs b.gives in
        let value = of_declared p b.first r (typed.result_types q g b.first there b.is) (subst (λ o. of_type o r ≡ true) b.is range) in
        subst (λ (ws : Values). OnGave (act.convert_to (spot x [] line) c r n) (λ w. is_of p ws w ≡ true)) d.1 (by c (declared b.first) d.0 value)
      where
        by : (c : Option CType) (u : Values) → convertible p f c u ≡ true → is_of p u r ≡ true → OnGave (act.convert_to (spot x [] line) c r n) (λ w. is_of p (converted_values p f c u) w ≡ true)
        by None u a e = e
        by (Some t) u a e = convert_of p typed f (spot x [] line) k v s t u r n a e

    goes_to : (hid : ℕ → Bool) (line : ℕ) (to : Receiver) (c : Option CType) (q : ℕ) (es : Vec Expr Global) (n : ℕ) (h : Heap) (v : List Value) (g : FunctionInfo) (vs : List Value) (pl : Option act.Place) → Came hid line to c q es n h v g vs pl → Placed line (result_values p f (Some g) c) pl
    goes_to hid line to c q es n h v g vs pl called =
        let o = both_true (call_ok p f (slice_get p.functions.items q) es.items) (receiver_ok p f to (result_values p f (slice_get p.functions.items q) c)) called.fits.typed in
        on_gave (machine_turn.received p to (spot x [] line) n (starting h v (Chosen []))) (Placed line (result_values p f (Some g) c)) pl
        (received_ok to (result_values p f (Some g) c) line n h v called.steady (subst (λ u. receiver_ok p f to (result_values p f u c) ≡ true) called.there o.1)) called.place_gave

    stored_ok : (hid : ℕ → Bool) (line : ℕ) (to : Receiver) (c : Option CType) (q : ℕ) (es : Vec Expr Global) (n m : ℕ) (h : Heap) (v : List Value) (g : FunctionInfo) (vs : List Value) (pl : Option act.Place) (k : Heap) (r u : Value) (place : act.Place) → Came hid line to c q es n h v g vs pl → Answers p x f (calling q h g vs pl) h k r → pl ≡ Some place → (act.convert_to (spot x [] line) c r m).end ≡ Gave u → (ws : Values) × PlaceHere line place ws × (is_of p ws u ≡ true)
    stored_ok hid line to c q es n m h v g vs pl k r u place called ans is gave =
        let z : Placed line (result_values p f (Some g) c) (Some place) = subst (λ o. Placed line (result_values p f (Some g) c) o) is (goes_to hid line to c q es n h v g vs pl called) in
        (z.0, z.2, on_gave (act.convert_to (spot x [] line) c r m) (λ w. is_of p z.0 w ≡ true) u (converts line m k v q g c r z.0 (answers_steady hid line to c q es n h v g vs pl k r called ans) called.there z.1 ans.range) gave)

    field_tests : (hid : ℕ → Bool) (line : ℕ) (k : Heap) (v : List Value) (r : Ref) (d : ℕ) (o : Formula) (w : Symbolic) (st : State) → Steady p f k v → (e : Environment l T) → Has l T e o (Refers r) → Matches hid e st k (local v) → TestedAs (Is l T e) (walk.store p a (walk.InField o d) w st).path (store_tests p (spot x [] line) (act.InField r d) (starting k v (Chosen [])))
    field_tests hid line k v r d o w st s e has m =
        store_tested l typed T f a (spot x [] line) refl refl refl hid e st (starting k v (Chosen [])) s (plainly.stated_of l typed T f x fis refl refl a [] line hid e st k v s m) (walk.InField o d) (act.InField r d) w (has, refl)

    pub field_goes : (hid : ℕ → Bool) (line : ℕ) (to : Receiver) (c : Option CType) (q : ℕ) (es : Vec Expr Global) (n : ℕ) (h : Heap) (v : List Value) (g : FunctionInfo) (vs : List Value) (pl : Option act.Place) (k : Heap) (r0 u : Value) (r : Ref) (d m : ℕ) (o : Formula) (w : Symbolic) (st : State) (h' : Heap) (v' : List Value) → Came hid line to c q es n h v g vs pl → Answers p x f (calling q h g vs pl) h k r0 → pl ≡ Some (act.InField r d) → (act.convert_to (spot x [] line) c r0 (n + call_checks p to q es.items)).end ≡ Gave u
        → ActsTo p x f (act.store p (spot x [] line) (act.InField r d) u m (starting k v (Chosen []))) h' v' → (e : Environment l T) → Has l T e o (Refers r) → StandsFor (Is l T e) (Has l T e) w u → Matches hid e st k (local v) → AllHold (Environment l T) (Holds l T) e (facts (walk.store p a (walk.InField o d) w st).path) × Matches hid e (walk.store p a (walk.InField o d) w st).gives h' (local v')
    field_goes hid line to c q es n h v g vs pl k r0 u r d m o w st h' v' called ans is conv acts e has stand mt =
        let s = answers_steady hid line to c q es n h v g vs pl k r0 called ans in
        let ok = stored_ok hid line to c q es n (n + call_checks p to q es.items) h v g vs pl k r0 u (act.InField r d) called ans is conv in
        let here = spot x [] line in
        let gg = starting k v (Chosen []) in
        let behind = walk.store p a (walk.InField o d) w st in
        let bs = store_tests p here (act.InField r d) gg in
        let z = ends_gave bs m (stored_progress (act.InField r d) u gg) acts.0 (act.store p here (act.InField r d) u m gg) (ends_store p here (act.InField r d) u m gg) acts.1 in
        let stored = store_stated l typed T f a here refl refl refl hid e st gg s (plainly.stated_of l typed T f x fis refl refl a [] line hid e st k v s mt) hid (λ j low. low) (walk.InField o d) (act.InField r d) w u (has, refl) stand (storable_by l typed T f a here refl refl (act.InField r d) ok.0 u ok.1 ok.2) in (
          passes l T e behind.path bs (field_tests hid line k v r d o w st s e has mt) z.0,
          record {
            spot = mt.spot;
            many = mt.many;
            heap = subst (λ (y : Heap). HeapIs l T e behind.gives.heap y) (ap (λ (y : act.Progress). y.heap) z.1 ∙ acts.2) stored.heap;
            locals = subst (λ (y : List Value). ShownBy l T size Spotted hid e 0 behind.gives.locals (local y)) (ap (λ (y : act.Progress). y.locals) z.1 ∙ acts.3) mt.locals;
          },
        )

    pub field_fails : (label : ℕ) (hid : ℕ → Bool) (line : ℕ) (to : Receiver) (c : Option CType) (q : ℕ) (es : Vec Expr Global) (n : ℕ) (h : Heap) (v : List Value) (g : FunctionInfo) (vs : List Value) (pl : Option act.Place) (k : Heap) (r0 u : Value) (r : Ref) (d m : ℕ) (o : Formula) (w : Symbolic) (st : State) → Came hid line to c q es n h v g vs pl → Answers p x f (calling q h g vs pl) h k r0 → pl ≡ Some (act.InField r d) → (act.convert_to (spot x [] line) c r0 (n + call_checks p to q es.items)).end ≡ Gave u
        → FailsAt label (act.store p (spot x [] line) (act.InField r d) u m (starting k v (Chosen []))) → (e : Environment l T) → Has l T e o (Refers r) → StandsFor (Is l T e) (Has l T e) w u → Matches hid e st k (local v) → FailsIn (Environment l T) (Holds l T) label m (walk.store p a (walk.InField o d) w st).path e
    field_fails label hid line to c q es n h v g vs pl k r0 u r d m o w st called ans is conv failed e has stand mt =
        let s = answers_steady hid line to c q es n h v g vs pl k r0 called ans in
        let here = spot x [] line in
        let gg = starting k v (Chosen []) in
        let bs = store_tests p here (act.InField r d) gg in
        fails l T e label m (walk.store p a (walk.InField o d) w st).path bs (field_tests hid line k v r d o w st s e has mt)
        (ends_failed bs m label failed.0 failed.1 (stored_progress (act.InField r d) u gg) (act.store p here (act.InField r d) u m gg) (ends_store p here (act.InField r d) u m gg) failed.2)

    -- What holds at each place holds behind a call.

    none_listed : (line : ℕ) (h : Heap) → ListedClosed (is_listed (spot x [] line)) h
    none_listed line h o e c = absurd (cc)

    receives_steady : (line : ℕ) (pl : Option act.Place) (c : Option CType) (q : ℕ) (g : FunctionInfo) (m : ℕ) (k h' : Heap) (v v' : List Value) (r : Value) → slice_get p.functions.items q ≡ Some g → Placed line (result_values p f (Some g) c) pl → of_type g.result r ≡ true → Steady p f k v → ActsTo p x f (local_run.receives p x f line pl c r m k v) h' v' → Steady p f h' v'
    receives_steady line None c q g m k h' v v' r there placed range s acts =
        let z : starting k v (Chosen []) ≡ acts.0 = gave_is (starting k v (Chosen [])) acts.0 acts.1 in
        subst (λ (y : Heap). Steady p f y v') (ap (λ (y : act.Progress). y.heap) z ∙ acts.2) (subst (λ (y : List Value). Steady p f k y) (ap (λ (y : act.Progress). y.locals) z ∙ acts.3) s)
    receives_steady line (Some place) c q g m k h' v v' r there placed range s acts =
        let here = spot x [] line in
        let gg = starting k v (Chosen []) in
        let ready = on_gave (local_run.receives p x f line (Some place) c r m k v) (λ (y : act.Progress). Steady p f y.heap y.locals) acts.0
        (after_gave (act.convert_to here c r m) (λ w. act.store p here place w (m + conversion_checks c) gg) (λ w. is_of p placed.0 w ≡ true) (λ (y : act.Progress). Steady p f y.heap y.locals) (converts line m k v q g c r placed.0 s there placed.1 range)
        (λ w i. end_map (act.store p here place w (m + conversion_checks c) gg).end (Fine p f x (is_listed here) gg) (λ (y : act.Progress). Steady p f y.heap y.locals) (λ y z. z.ready) (store_fine p typed f here refl place placed.0 w (m + conversion_checks c) gg s (none_listed line k) placed.2 i))) acts.1 in
        subst (λ (y : Heap). Steady p f y v') acts.2 (subst (λ (y : List Value). Steady p f acts.0.heap y) acts.3 ready)

    pub call_steady : (hid : ℕ → Bool) (line : ℕ) (to : Receiver) (c : Option CType) (q : ℕ) (es : Vec Expr Global) (n : ℕ) (h h' : Heap) (v v' : List Value) → FitsOther p number f hid (Call line to c q es) → Steady p f h v → ReachesBy p x f (Lazily p x.me) (Call line to c q es) n h v h' v' → Steady p f h' v'
    call_steady hid line to c q es n h h' v v' fits s (k, y, k1, r, moves, gave, ans, acts) =
        let s1 = steadily.moved_steady p f T true false h k v s moves in
        let z = calls.call_came (Environment l T) (Agree l T) (agree_self l T) (agree_then l T) (agree_less l T) (Holds l T) (Is l T) (Has l T) (HeapIs l T) (has_says l T) (holds_eq l T) (holds_same l T) (holds_all l T) (holds_first l T) (holds_second l T) (an_integer l T) (is_integer l T) (a_reference l T) (is_refers l T) (IsHeapOf p) (a_heap l T) (is_heap l T) size Spotted (holds_is l T) (is_false l T) ranges_are zero_is p number x f a (Steady p f) (steady_proper p f) size_is code_has pointer_refers range_has hid line to c q es n k v y fits s1 gave in
        let ans1 : Answers p x f (calling q k z.0 z.1 z.2) k k1 r = subst (λ (w : Calling). Answers p x f w k k1 r) (sym z.3.same) ans in
        let acts1 = subst (λ (w : Calling). ActsTo p x f (local_run.receives p x f line w.place c r (n + call_checks p to q es.items) k1 v) h' v') (sym z.3.same) acts in
        receives_steady line z.2 c q z.0 (n + call_checks p to q es.items) k1 h' v v' r z.3.called.there (goes_to hid line to c q es n k v z.0 z.1 z.2 z.3.called) ans1.range (answers_steady hid line to c q es n k v z.0 z.1 z.2 k1 r z.3.called ans1) acts1

    -- Plain actions.

    pub plain_right : (hid : ℕ → Bool) (t : Target) (r : RightSide) → PlainText p good number f fis (Simply (Assign t r)) → annotated.IsPlain p good typed f x fis T refl refl a good0.well_formed.heap_of fit hid (Simply (Assign t r))
    plain_right hid t (Compute e) s = tt
    plain_right hid t (Malloc ty) s = tt
    plain_right hid t (NewClaim n) s = absurd s
    plain_right hid t (Interlocked e n op c) s = tt

    pub is_plain : (hid : ℕ → Bool) (c : Action) → FitsAction p number f hid c → PlainText p good number f fis c → annotated.IsPlain p good typed f x fis T refl refl a good0.well_formed.heap_of fit hid c
    is_plain hid (Simply (Assign t r)) fits s = plain_right hid t r s
    is_plain hid (Simply (ChangeOwned o e es)) fits s = tt
    is_plain hid (Simply (EndClaim q e es)) fits s = absurd s
    is_plain hid (Declare i) fits s = tt
    is_plain hid (Define i r) fits s = plain_right hid (Local i) r s
    is_plain hid (WrapObject ty q e) fits s = wrap_of ty q s
    is_plain hid (UnwrapObject e) fits s = tt
    is_plain hid (AssertSpec e) fits s = record { passes = fits_shown p f fits.is hid (known_seen p f fits.is hid fits.place) e false (function_words f) fits.scoped s.passes; named = s.named; listed = s.listed }
    is_plain hid (FreeObject e) fits s = tt
    is_plain hid (SpawnThread g es) fits s = absurd s
    is_plain hid (Atomic ls body) fits s = absurd s

    -- The law of one function. Given: each other action goes along its path, or breaks its check there.
    module _ (Other : Action → Type 0)
        (other_follows : (hid : ℕ → Bool) (line n : ℕ) (c : Action) (choices : List Value) (news : List Ref) (st : State) (h h' : Heap) (v v' : List Value) → FitsAction p number f hid c → Other c → AllSorted f.variables.items st.locals → Steady p f h v → ActsTo p x f (act.act p x choices (Chosen news) line c n h v) h' v' → Follows l T size Spotted hid (after_stmt (Do line c) hid) st (walk.run_action p a f c st) h (local v) h' (local v'))
        (other_breaks : (label : ℕ) (hid : ℕ → Bool) (line n : ℕ) (c : Action) (choices : List Value) (news : List Ref) (st : State) (h : Heap) (v : List Value) → FitsAction p number f hid c → Other c → AllSorted f.variables.items st.locals → Steady p f h v → FailsAt label (act.act p x choices (Chosen news) line c n h v) → Breaks l T size Spotted label n hid st (walk.run_action p a f c st) h (local v))
      where
        abbrev pub TextAction : Action → Type 0
        TextAction c = ActionText p good number f fis Other c

        act_follows : (hid : ℕ → Bool) (line n : ℕ) (c : Action) (choices : List Value) (news : List Ref) (st : State) (h h' : Heap) (v v' : List Value) → ActionFits p number f TextAction TextSpec FitsWrap hid c → AllSorted f.variables.items st.locals → Steady p f h v → ActsTo p x f (act.act p x choices (Chosen news) line c n h v) h' v' → Follows l T size Spotted hid (after_stmt (Do line c) hid) st (walk.run_action p a f c st) h (local v) h' (local v')
        act_follows hid line n c choices news st h h' v v' fits sorted s acts = ⊎_elim
            (λ plain. annotated.act_follows p good typed f x fis T refl refl a good0.well_formed.heap_of fit hid line n c choices news st h h' v v' fits.0 (is_plain hid c fits.0 plain) sorted s acts)
            (λ other. other_follows hid line n c choices news st h h' v v' fits.0 other sorted s acts)
            fits.1

        act_breaks : (label : ℕ) (hid : ℕ → Bool) (line n : ℕ) (c : Action) (choices : List Value) (news : List Ref) (st : State) (h : Heap) (v : List Value) → ActionFits p number f TextAction TextSpec FitsWrap hid c → AllSorted f.variables.items st.locals → Steady p f h v → FailsAt label (act.act p x choices (Chosen news) line c n h v) → Breaks l T size Spotted label n hid st (walk.run_action p a f c st) h (local v)
        act_breaks label hid line n c choices news st h v fits sorted s fails = ⊎_elim
            (λ plain. annotated.act_breaks p good typed f x fis T refl refl a good0.well_formed.heap_of fit label hid line n c choices news st h v fits.0 (is_plain hid c fits.0 plain) sorted s fails)
            (λ other. other_breaks label hid line n c choices news st h v fits.0 other sorted s fails)
            fits.1

        -- where the condition of a check is valid, no local run from this entry fails it
        pub local_ok : Scoped p → ConversionsAreReceived p → TextBody p number f TextAction TextSpec FitsWrap f.body.items → (label : ℕ) → IsValidAt (Environment l T) (Holds l T) label 1 (function_conditions p (Some f)) → IsTrue (requires_hold p f T h0 args) → FailsBodyBy p x f (Lazily p x.me) label f.body.items 1 h0 (begin p x).locals → ⊥
        local_ok scoped plain said label valid requires r =
            law.local_ok (Environment l T) (Agree l T) (agree_self l T) (agree_then l T) (agree_less l T) (Holds l T) (Is l T) (Has l T) (HeapIs l T) (has_says l T) (holds_eq l T) (holds_same l T) (holds_all l T) (holds_first l T) (holds_second l T) (an_integer l T) (is_integer l T) (a_reference l T) (is_refers l T) (IsHeapOf p) (a_heap l T) (is_heap l T) size Spotted (holds_is l T) (is_false l T) ranges_are zero_is denied test_has
            p number f TextAction TextSpec FitsWrap n0 h0 args refl (Steady p f) (steady_proper p f) (steadily.steady_values p f) size_is (steadily.moved_steady p f T) (act_steady TextAction FitsWrap) (turns_steady TextAction FitsWrap) call_steady (unwrap_steady TextAction) (wrap_steady TextAction)
            rely_is (λ h e u ph s is g. good_is e u h is g) frame_is code_has pointer_refers (object_typed TextAction) range_has code_fails act_follows act_breaks (unwrap_goes TextAction) (wrap_goes TextAction) (unwrap_fails TextAction) (wrap_fails TextAction) (inv_are TextAction FitsWrap) leaves_are
            answers_steady result_named requires_are_so writes_are_so call_frame ensures_are_so field_goes field_fails entry_steady spotted (λ e u is g. good_is e u h0 is g) entry_are an_environment (holds_yes l T) (holds_and l T) (holds_imp l T)
            typed scoped plain fis said label valid good0 fit requires r
