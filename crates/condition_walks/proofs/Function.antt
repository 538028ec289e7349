-- Where the condition of a check in a function's body is valid, no local run of the function fails the check (local_ok).
-- Premises: the program is well typed and scoped, only received values of calls are converted, the function stands in its table, and the body's annotations fit (TextBody).
-- What terms mean in an environment, and that each action goes beside its path, are parameters; function_law gives them.
use Rattle.std.proofs.Common.{◌≡◌, ℕ, ◌+◌, Bool, true, false, ℤ, pos, List, [], ◌∷◌, ◌++◌, map, length, drop, slice_get, Option, Some, Vec, Global, refl, subst}
use Rattle.std.specs.Prelude.{IsTrue}
use Rattle.int_ranges.specs.declared.ctype.CType.{CType}
use Rattle.int_ranges.specs.Ranges as machine_range
use Rattle.object_types.specs.declared.references.Ref.{Ref}
use Rattle.object_types.specs.declared.values.Value.{Value}
use Rattle.object_types.specs.declared.values.Value.TheVariants.{Int, Ref as Refers}
use Rattle.object_types.specs.References.{is_reference}
use Rattle.object_types.specs.Values.{says, int, referent, truth}
use Rattle.object_types.specs.Heap.{Heap}
use Rattle.method.specs.declared.program.DeclaredType.{DeclaredType}
use Rattle.method.specs.declared.program.DeclaredType.TheVariants.{Pointer}
use Rattle.method.specs.declared.program.Expr.{Expr}
use Rattle.method.specs.declared.program.Spec.{Spec}
use Rattle.method.specs.declared.program.Action.{Action}
use Rattle.method.specs.declared.program.Receiver.{Receiver}
use Rattle.method.specs.declared.program.Stmt.{Row_of-Stmt}
use Rattle.method.specs.declared.program.Stmt.TheVariants.{Do, Call}
use Rattle.method.specs.declared.program.FunctionInfo.{FunctionInfo}
use Rattle.method.specs.declared.program.Program.{Program}
use Rattle.method.specs.Tables.{local, in_type}
use Rattle.method.specs.SpecValue.{holds}
use Rattle.method.specs.Rely.{Rely, Frame}
use Rattle.method.specs.WellFormed.{is_value}
use Rattle.method.specs.Typing.{is_pointer}
use Rattle.method.specs.Expressions.{Context, Gave, Tested, item_tests, may_write, eval, scene, call_scene, return_scene}
use Rattle.method.specs.Actions as act
use Rattle.method.specs.Actions.{Chosen, spot, starting, callee}
use Rattle.method.specs.Machine as machine_turn
use Rattle.method.specs.LocalRuns.{FailsAt, Lazily, ActsTo, Answers, Turns, ReachesBy, FailsBodyBy}
use Rattle.method.specs.Text.{call_checks, row_sets}
use Rattle.terms.specs.declared.term.Kind.TheVariants as kinds
use Rattle.terms.specs.Formula.{Formula}
use Rattle.conditions.specs.Formulas.{node, nat, me, not', eq, or', all_of, integer, reference, heap}
use Rattle.conditions.specs.Symbolic.{Symbolic, Truth, term, test, ranges}
use Rattle.conditions.specs.Paths.{Execution, after, facts}
use Rattle.conditions.specs.Code.{Spot, State, in_range, code, call_scene as term_call, return_scene as term_return, writable}
use Rattle.conditions.specs.Actions as walk
use Rattle.conditions.specs.Actions.{items_of, clauses, run_action}
use Rattle.conditions.specs.Statements.{interference, invariant_formulas, return_checks, stmt, stmts, body_end, body}
use Rattle.conditions.specs.Statements as walk_stmt
use Rattle.conditions.specs.Ways.{AllHold, FailsIn, StandsFor}
use Rattle.conditions.proofs.Hiding.{after_stmt}
use Rattle.conditions.proofs.FromRuns as runs
use Rattle.conditions.proofs.FromRuns.{Count, count_of, IsWithin, within_self, one_integer, one_reference, one_heap, Values}
use Rattle.condition_walks.proofs.TermSorts.{AllSorted}
use Rattle.condition_walks.proofs.Checks.{AllIs}
use Rattle.condition_walks.proofs.Fitting.{FitsExpr, ActionFits, FitsOther, LoopFits, SpecsFit, FitsReturn, ObjectFits}
use Rattle.condition_walks.proofs.Calls as calls
use Rattle.object_types.specs.References.{thread}
use Rattle.method.specs.Legal.{Good}
use Rattle.method.specs.Machine.{begin, begin_with, fit_parameters, requires_hold, zeros_of}
use Rattle.method.specs.Actions.{clauses_hold}
use Rattle.method.specs.Scopes.{Scoped}
use Rattle.method.specs.Typing.{WellTyped, returns_value}
use Rattle.conditions.specs.Formulas.{true_formula, and', imp}
use Rattle.conditions.specs.Conditions.{function_conditions}
use Rattle.conditions.specs.Statements.{entry_facts, run}
use Rattle.conditions.specs.Ways.{IsValidAt}
use Rattle.condition_walks.proofs.Fitting.{ConversionsAreReceived, TextBody, at_entry, body_fits}
use Rattle.condition_walks.proofs.Law as law
use Rattle.condition_walks.proofs.Entry.{entry_values, entry_state, first_spot, entry_spot, run_conditions, entry_sorted, parameters_fit, entry_environment}

module _ (E : Type 0)
    (Agree : Count → E → E → Type 0)
    (agree_self : (c : Count) (e : E) → Agree c e e)
    (agree_then : (c : Count) (d e f : E) → Agree c d e → Agree c e f → Agree c d f)
    (agree_less : (c d : Count) (e f : E) → IsWithin c d → Agree d e f → Agree c e f)
    (Holds : E → Formula → Type 0) (Is : E → Formula → Bool → Type 0) (Has : E → Formula → Value → Type 0) (HeapIs : E → Formula → Heap → Type 0)
    (has_says : (e : E) (x : Formula) (b : Bool) → Is e x b → Has e (term (Truth x)) (says b))
    (holds_eq : (e : E) (x y : Formula) (v : Value) → Has e x v → Has e y v → Holds e (eq x y))
    (holds_same : (e : E) (x y : Formula) (h : Heap) → HeapIs e x h → HeapIs e y h → Holds e (eq x y))
    (holds_all : (e : E) (fs : List Formula) → AllHold E Holds e fs → Holds e (all_of fs))
    (holds_first : (e : E) (x y : Formula) → Holds e x → Holds e (or' x y))
    (holds_second : (e : E) (x y : Formula) → Holds e y → Holds e (or' x y))
    (an_integer : (c : Count) (z : ℤ) → runs.Extension E Agree agree_self agree_then agree_less c (one_integer c))
    (is_integer : (c : Count) (z : ℤ) (e : E) → (an_integer c z).So e → Has e (integer c.integers) (Int z))
    (a_reference : (c : Count) (r : Ref) → is_reference r ≡ true → runs.Extension E Agree agree_self agree_then agree_less c (one_reference c))
    (is_refers : (c : Count) (r : Ref) (named : is_reference r ≡ true) (e : E) → (a_reference c r named).So e → Has e (reference c.references) (Refers r))
    (Proper : Heap → Type 0)
    (a_heap : (c : Count) (h : Heap) → Proper h → runs.Extension E Agree agree_self agree_then agree_less c (one_heap c))
    (is_heap : (c : Count) (h : Heap) (proper : Proper h) (e : E) → (a_heap c h proper).So e → HeapIs e (heap c.heaps) h)
    (size : ℕ) (Spotted : E → Type 0)
    (holds_is : (e : E) (g : Formula) → Is e g true → Holds e g)
    (is_false : (e : E) (g : Formula) → Is e g false → ¬ Holds e g)
    (ranges_hold : (ty : DeclaredType) (w : Formula) (v : Value) → in_type ty v ≡ true → (e : E) → Has e w v → AllHold E Holds e (ranges ty w))
  where
    abbrev Extension : Count → Count → Type 1
    Extension = runs.Extension E Agree agree_self agree_then agree_less

    abbrev All : E → List Formula → Type 0
    All = AllHold E Holds

    abbrev Stands : E → Symbolic → Value → Type 0
    Stands e = StandsFor (Is e) (Has e)

    abbrev Shown : (ℕ → Bool) → E → ℕ → List Symbolic → Values → Type 0
    Shown = runs.Shown E Agree agree_self agree_then agree_less Holds Is Has HeapIs has_says holds_eq holds_same holds_all holds_first holds_second an_integer is_integer a_reference is_refers Proper a_heap is_heap size Spotted

    abbrev Matches : (ℕ → Bool) → E → State → Heap → Values → Type 0
    Matches = runs.Matches E Agree agree_self agree_then agree_less Holds Is Has HeapIs has_says holds_eq holds_same holds_all holds_first holds_second an_integer is_integer a_reference is_refers Proper a_heap is_heap size Spotted

    abbrev Follows : (ℕ → Bool) → (ℕ → Bool) → State → Execution State → Heap → Values → Heap → Values → Type 1
    Follows = runs.Follows E Agree agree_self agree_then agree_less Holds Is Has HeapIs has_says holds_eq holds_same holds_all holds_first holds_second an_integer is_integer a_reference is_refers Proper a_heap is_heap size Spotted

    abbrev Breaks : ℕ → ℕ → (ℕ → Bool) → State → Execution State → Heap → Values → Type 1
    Breaks = runs.Breaks E Agree agree_self agree_then agree_less Holds Is Has HeapIs has_says holds_eq holds_same holds_all holds_first holds_second an_integer is_integer a_reference is_refers Proper a_heap is_heap size Spotted

    abbrev follows_after : (a b c : ℕ → Bool) (st : State) (t : Execution State) (g : State → Execution State) (h h1 h2 : Heap) (l l1 l2 : Values) → Follows a b st t h l h1 l1 → Follows b c t.gives (g t.gives) h1 l1 h2 l2 → Follows a c st (after t g) h l h2 l2
    follows_after = runs.follows_after E Agree agree_self agree_then agree_less Holds Is Has HeapIs has_says holds_eq holds_same holds_all holds_first holds_second an_integer is_integer a_reference is_refers Proper a_heap is_heap size Spotted

    stands_term : (e : E) (x : Symbolic) (v : Value) → Stands e x v → Has e (term x) v
    stands_term = runs.stands_term E Agree agree_self agree_then agree_less Holds Is Has HeapIs has_says holds_eq holds_same holds_all holds_first holds_second an_integer is_integer a_reference is_refers Proper a_heap is_heap size Spotted

    within_extension : (c d : Count) → IsWithin c d → Extension c d
    within_extension = runs.no_extension E Agree agree_self agree_then agree_less

    module _ (has_zero : (e : E) → Has e (nat 0) (Int (pos 0)))
        (holds_denied : (e : E) (g : Formula) → Is e g false → Holds e (not' g))
        (test_is : (e : E) (w : Symbolic) (v : Value) → Stands e w v → Is e (test w) (truth v))
        (p : Program) (number : ℕ) (f : FunctionInfo) (TextAction : Action → Type 0) (TextSpec : Spec → Type 0) (TextObject : ℕ → ℕ → Type 0) (t : ℕ) (h0 : Heap) (args : List Value)
      where
        abbrev x : Context
        x = callee p number f (thread t) h0 args

        abbrev a : Spot
        a = entry_spot p f

        module _
            (sized : size ≡ length f.variables.items)
            (Steady : Heap → List Value → Type 0)
            (steady_proper : (h : Heap) (l : List Value) → Steady h l → Proper h)
            (steady_values : (h : Heap) (l : List Value) → Steady h l → (i : ℕ) → is_value (local l i) ≡ true)
            (steady_size : (h : Heap) (l : List Value) → Steady h l → length l ≡ size)
            -- what holds at each place of a run is kept
            (moved_steady : (b q : Bool) (h k : Heap) (l : List Value) → Steady h l → Lazily p x.me b q h k → Steady k l)
            (act_steady : (hid : ℕ → Bool) (line n : ℕ) (c : Action) (choices : List Value) (news : List Ref) (h h' : Heap) (l l' : List Value) → ActionFits p number f TextAction TextSpec TextObject hid c → Steady h l → ActsTo p x f (act.act p x choices (Chosen news) line c n h l) h' l' → Steady h' l')
            (turns_steady : (hid : ℕ → Bool) (invs : List Spec) (m : _) (row : Row_of-Stmt m) (h k : Heap) (l l1 : List Value) → LoopFits p number f TextAction TextSpec TextObject hid invs m row → Steady h l → Turns p x f invs (row_sets row) h k l l1 → Steady k l1)
            (call_steady : (hid : ℕ → Bool) (line : ℕ) (to : Receiver) (c : Option CType) (q : ℕ) (es : Vec Expr Global) (n : ℕ) (h h' : Heap) (l l' : List Value) → FitsOther p number f hid (Call line to c q es) → Steady h l → ReachesBy p x f (Lazily p x.me) (Call line to c q es) n h l h' l' → Steady h' l')
            (unwrap_steady : (ty q line n : ℕ) (c : Expr) (r : Ref) (h h' : Heap) (l l' : List Value) → ObjectFits p number f TextAction TextSpec TextObject ty q c → in_type (Pointer ty) (Refers r) ≡ true → Steady h l → ActsTo p x f (act.unwrap_object p (spot x [] line) r n (starting h l (Chosen []))) h' l' → Steady h' l')
            (wrap_steady : (ty q line n : ℕ) (c : Expr) (r : Ref) (h h' : Heap) (l l' : List Value) → ObjectFits p number f TextAction TextSpec TextObject ty q c → in_type (Pointer ty) (Refers r) ≡ true → Steady h l → ActsTo p x f (act.wrap_object p (spot x [] line) ty r n (starting h l (Chosen []))) h' l' → Steady h' l')
            -- rely and frame
            (rely_holds : (h k : Heap) (e : E) (u v : Formula) → Proper h → Proper k → Spotted e → HeapIs e u h → HeapIs e v k → Rely p x.me h k → Holds e (node kinds.Rely (me ∷ u ∷ v ∷ [])))
            (good_told : (h : Heap) (e : E) (u : Formula) → Proper h → Spotted e → HeapIs e u h → Good p h → Holds e (node kinds.Good (u ∷ [])))
            (frame_holds : (h k : Heap) (e : E) (u v : Formula) → Proper h → Proper k → Spotted e → HeapIs e u h → HeapIs e v k → Frame p x.me h k x.entry x.writes → Holds e (node kinds.Frame (me ∷ u ∷ v ∷ a.entry ∷ a.writes)))
            -- expressions
            (code_stands : (hid : ℕ → Bool) (line n : ℕ) (c : Expr) (st : State) (h : Heap) (l : List Value) (v : Value) → FitsExpr p number f hid c → Steady h l → (eval p (spot x [] line) h l c n).end ≡ Gave v → (e : E) → Matches hid e st h (local l) → All e (facts (code p a st c).path) × Stands e (code p a st c).gives v)
            (pointer_has : (hid : ℕ → Bool) (test : ℕ → Bool) (line n : ℕ) (c : Expr) (st : State) (h : Heap) (l : List Value) (v : Value) → FitsExpr p number f hid c → is_pointer p f test c ≡ true → Steady h l → (eval p (spot x [] line) h l c n).end ≡ Gave v → (e : E) → Matches hid e st h (local l) → Has e (term (code p a st c).gives) (Refers (referent v)))
            (object_typed : (hid : ℕ → Bool) (ty q line n : ℕ) (c : Expr) (h : Heap) (l : List Value) (v : Value) → FitsExpr p number f hid c → ObjectFits p number f TextAction TextSpec TextObject ty q c → Steady h l → (eval p (spot x [] line) h l c n).end ≡ Gave v → in_type (Pointer ty) v ≡ true)
            (range_is : (c : CType) (w : Symbolic) (v : Value) (e : E) → Stands e w v → Is e (in_range p a c (term w)) (machine_range.in_range c (int v)))
            (code_breaks : (label : ℕ) (hid : ℕ → Bool) (line n : ℕ) (c : Expr) (st : State) (h : Heap) (l : List Value) → FitsExpr p number f hid c → Steady h l → FailsAt label (eval p (spot x [] line) h l c n) → (e : E) → Matches hid e st h (local l) → FailsIn E Holds label n (code p a st c).path e)
            -- actions
            (act_follows : (hid : ℕ → Bool) (line n : ℕ) (c : Action) (choices : List Value) (news : List Ref) (st : State) (h h' : Heap) (l l' : List Value) → ActionFits p number f TextAction TextSpec TextObject hid c → AllSorted f.variables.items st.locals → Steady h l → ActsTo p x f (act.act p x choices (Chosen news) line c n h l) h' l' → Follows hid (after_stmt (Do line c) hid) st (run_action p a f c st) h (local l) h' (local l'))
            (act_breaks : (label : ℕ) (hid : ℕ → Bool) (line n : ℕ) (c : Action) (choices : List Value) (news : List Ref) (st : State) (h : Heap) (l : List Value) → ActionFits p number f TextAction TextSpec TextObject hid c → AllSorted f.variables.items st.locals → Steady h l → FailsAt label (act.act p x choices (Chosen news) line c n h l) → Breaks label n hid st (run_action p a f c st) h (local l))
            (unwrap_goes : (hid : ℕ → Bool) (ty q line n : ℕ) (c : Expr) (o : Formula) (r : Ref) (st : State) (h h' : Heap) (l l' : List Value) → ObjectFits p number f TextAction TextSpec TextObject ty q c → in_type (Pointer ty) (Refers r) ≡ true → Steady h l → ActsTo p x f (act.unwrap_object p (spot x [] line) r n (starting h l (Chosen []))) h' l' → (e : E) → Has e o (Refers r) → Matches hid e st h (local l) → All e (facts (walk.unwrap_object p a o st).path) × Matches hid e (walk.unwrap_object p a o st).gives h' (local l'))
            (wrap_goes : (hid : ℕ → Bool) (ty q line n : ℕ) (c : Expr) (o : Formula) (r : Ref) (st : State) (h h' : Heap) (l l' : List Value) → ObjectFits p number f TextAction TextSpec TextObject ty q c → in_type (Pointer ty) (Refers r) ≡ true → Steady h l → ActsTo p x f (act.wrap_object p (spot x [] line) ty r n (starting h l (Chosen []))) h' l' → (e : E) → Has e o (Refers r) → Matches hid e st h (local l) → All e (facts (walk.wrap_object p a ty q o st).path) × Matches hid e (walk.wrap_object p a ty q o st).gives h' (local l'))
            (unwrap_fails : (label : ℕ) (hid : ℕ → Bool) (ty q line n : ℕ) (c : Expr) (o : Formula) (r : Ref) (st : State) (h : Heap) (l : List Value) → ObjectFits p number f TextAction TextSpec TextObject ty q c → in_type (Pointer ty) (Refers r) ≡ true → Steady h l → FailsAt label (act.unwrap_object p (spot x [] line) r n (starting h l (Chosen []))) → (e : E) → Has e o (Refers r) → Matches hid e st h (local l) → FailsIn E Holds label n (walk.unwrap_object p a o st).path e)
            (wrap_fails : (label : ℕ) (hid : ℕ → Bool) (ty q line n : ℕ) (c : Expr) (o : Formula) (r : Ref) (st : State) (h : Heap) (l : List Value) → ObjectFits p number f TextAction TextSpec TextObject ty q c → in_type (Pointer ty) (Refers r) ≡ true → Steady h l → FailsAt label (act.wrap_object p (spot x [] line) ty r n (starting h l (Chosen []))) → (e : E) → Has e o (Refers r) → Matches hid e st h (local l) → FailsIn E Holds label n (walk.wrap_object p a ty q o st).path e)
            -- invariants of loops
            (inv_is : (hid : ℕ → Bool) (invs : List Spec) (st : State) (h : Heap) (l : List Value) → SpecsFit p number f TextAction TextSpec TextObject hid invs → AllSorted f.variables.items st.locals → Steady h l → (e : E) → Matches hid e st h (local l) → AllIs E Holds Is holds_is is_false e (invariant_formulas p f a invs st) (map (λ g. holds p g (scene x h l)) invs))
            -- the contract, at a return
            (leaves_is : (label : ℕ) (hid : ℕ → Bool) (line n : ℕ) (c : Option Expr) (st : State) (h : Heap) (l : List Value) (v : Value) → FitsReturn p number f hid c → AllSorted f.variables.items st.locals → Steady h l → (machine_turn.value_of p (spot x [] line) c h l n).end ≡ Gave v → (e : E) → Matches hid e st h (local l) → Stands e (walk_stmt.value_of p f a c st).gives v
            → AllIs E Holds Is holds_is is_false e (clauses p a f.ensures_.items (term_return a.entry a.args st.heap (walk_stmt.value_of p f a c st).gives)) (map (λ d. holds p d.spec (return_scene x h v)) f.ensures_.items))
            -- calls
            (answers_steady : (hid : ℕ → Bool) (line : ℕ) (to : Receiver) (c : Option CType) (q : ℕ) (es : Vec Expr Global) (n : ℕ) (h : Heap) (l : List Value) (g : FunctionInfo) (vs : List Value) (pl : Option act.Place) (k : Heap) (v : Value) → calls.Called E Agree agree_self agree_then agree_less Holds Is Has HeapIs has_says holds_eq holds_same holds_all holds_first holds_second an_integer is_integer a_reference is_refers Proper a_heap is_heap size Spotted holds_is is_false ranges_hold has_zero p number x f a Steady steady_proper steady_size code_stands pointer_has range_is hid line to c q es n h l g vs pl → Answers p x f (calls.calling E Agree agree_self agree_then agree_less Holds Is Has HeapIs has_says holds_eq holds_same holds_all holds_first holds_second an_integer is_integer a_reference is_refers Proper a_heap is_heap size Spotted holds_is is_false ranges_hold has_zero p number x f a Steady steady_proper steady_size code_stands pointer_has range_is q h g vs pl) h k v → Steady k l)
            (result_named : (hid : ℕ → Bool) (line : ℕ) (to : Receiver) (c : Option CType) (q : ℕ) (es : Vec Expr Global) (n : ℕ) (h : Heap) (l : List Value) (g : FunctionInfo) (vs : List Value) (pl : Option act.Place) (k : Heap) (v : Value) → calls.Called E Agree agree_self agree_then agree_less Holds Is Has HeapIs has_says holds_eq holds_same holds_all holds_first holds_second an_integer is_integer a_reference is_refers Proper a_heap is_heap size Spotted holds_is is_false ranges_hold has_zero p number x f a Steady steady_proper steady_size code_stands pointer_has range_is hid line to c q es n h l g vs pl → Answers p x f (calls.calling E Agree agree_self agree_then agree_less Holds Is Has HeapIs has_says holds_eq holds_same holds_all holds_first holds_second an_integer is_integer a_reference is_refers Proper a_heap is_heap size Spotted holds_is is_false ranges_hold has_zero p number x f a Steady steady_proper steady_size code_stands pointer_has range_is q h g vs pl) h k v → is_value v ≡ true)
            (requires_is : (hid : ℕ → Bool) (line : ℕ) (to : Receiver) (c : Option CType) (q : ℕ) (es : Vec Expr Global) (n : ℕ) (h : Heap) (l : List Value) (g : FunctionInfo) (vs : List Value) (pl : Option act.Place) (st : State) (ws : List Symbolic) → calls.Called E Agree agree_self agree_then agree_less Holds Is Has HeapIs has_says holds_eq holds_same holds_all holds_first holds_second an_integer is_integer a_reference is_refers Proper a_heap is_heap size Spotted holds_is is_false ranges_hold has_zero p number x f a Steady steady_proper steady_size code_stands pointer_has range_is hid line to c q es n h l g vs pl → (e : E) → Matches hid e st h (local l) → calls.AllStand E Agree agree_self agree_then agree_less Holds Is Has HeapIs has_says holds_eq holds_same holds_all holds_first holds_second an_integer is_integer a_reference is_refers Proper a_heap is_heap size Spotted holds_is is_false ranges_hold e ws vs → AllIs E Holds Is holds_is is_false e (clauses p a g.requires_.items (term_call me st.heap ws)) (map (λ d. holds p d.spec (call_scene x.me h vs)) g.requires_.items))
            (writes_is : (hid : ℕ → Bool) (line : ℕ) (to : Receiver) (c : Option CType) (q : ℕ) (es : Vec Expr Global) (n : ℕ) (h : Heap) (l : List Value) (g : FunctionInfo) (vs : List Value) (pl : Option act.Place) (st : State) (ws : List Symbolic) → calls.Called E Agree agree_self agree_then agree_less Holds Is Has HeapIs has_says holds_eq holds_same holds_all holds_first holds_second an_integer is_integer a_reference is_refers Proper a_heap is_heap size Spotted holds_is is_false ranges_hold has_zero p number x f a Steady steady_proper steady_size code_stands pointer_has range_is hid line to c q es n h l g vs pl → (e : E) → Matches hid e st h (local l) → calls.AllStand E Agree agree_self agree_then agree_less Holds Is Has HeapIs has_says holds_eq holds_same holds_all holds_first holds_second an_integer is_integer a_reference is_refers Proper a_heap is_heap size Spotted holds_is is_false ranges_hold e ws vs → AllIs E Holds Is holds_is is_false e (map (λ o. writable p a o) (items_of p a g.writes.items (term_call me st.heap ws))) (map (λ (t : Tested). t.holds) (item_tests p (may_write (spot x [] line)) g.writes.items (call_scene x.me h vs))))
            (frame_is : (hid : ℕ → Bool) (line : ℕ) (to : Receiver) (c : Option CType) (q : ℕ) (es : Vec Expr Global) (n : ℕ) (h : Heap) (l : List Value) (g : FunctionInfo) (vs : List Value) (pl : Option act.Place) (st : State) (ws : List Symbolic) (k : Heap) (u : Formula) → calls.Called E Agree agree_self agree_then agree_less Holds Is Has HeapIs has_says holds_eq holds_same holds_all holds_first holds_second an_integer is_integer a_reference is_refers Proper a_heap is_heap size Spotted holds_is is_false ranges_hold has_zero p number x f a Steady steady_proper steady_size code_stands pointer_has range_is hid line to c q es n h l g vs pl → (e : E) → Matches hid e st h (local l) → calls.AllStand E Agree agree_self agree_then agree_less Holds Is Has HeapIs has_says holds_eq holds_same holds_all holds_first holds_second an_integer is_integer a_reference is_refers Proper a_heap is_heap size Spotted holds_is is_false ranges_hold e ws vs → Proper k → HeapIs e u k → Frame p x.me h k h (callee p q g x.me h vs).writes → Holds e (node kinds.Frame (me ∷ st.heap ∷ u ∷ st.heap ∷ items_of p a g.writes.items (term_call me st.heap ws))))
            (ensures_is : (hid : ℕ → Bool) (line : ℕ) (to : Receiver) (c : Option CType) (q : ℕ) (es : Vec Expr Global) (n : ℕ) (h : Heap) (l : List Value) (g : FunctionInfo) (vs : List Value) (pl : Option act.Place) (st : State) (ws : List Symbolic) (k : Heap) (u : Formula) (v : Value) (w : Symbolic) → calls.Called E Agree agree_self agree_then agree_less Holds Is Has HeapIs has_says holds_eq holds_same holds_all holds_first holds_second an_integer is_integer a_reference is_refers Proper a_heap is_heap size Spotted holds_is is_false ranges_hold has_zero p number x f a Steady steady_proper steady_size code_stands pointer_has range_is hid line to c q es n h l g vs pl → Answers p x f (calls.calling E Agree agree_self agree_then agree_less Holds Is Has HeapIs has_says holds_eq holds_same holds_all holds_first holds_second an_integer is_integer a_reference is_refers Proper a_heap is_heap size Spotted holds_is is_false ranges_hold has_zero p number x f a Steady steady_proper steady_size code_stands pointer_has range_is q h g vs pl) h k v → (e : E) → Matches hid e st h (local l) → calls.AllStand E Agree agree_self agree_then agree_less Holds Is Has HeapIs has_says holds_eq holds_same holds_all holds_first holds_second an_integer is_integer a_reference is_refers Proper a_heap is_heap size Spotted holds_is is_false ranges_hold e ws vs → HeapIs e u k → Stands e w v → AllIs E Holds Is holds_is is_false e (clauses p a g.ensures_.items (term_return st.heap ws u w)) (map (λ d. holds p d.spec (return_scene (callee p q g x.me h vs) k v)) g.ensures_.items))
            (field_goes : (hid : ℕ → Bool) (line : ℕ) (to : Receiver) (c : Option CType) (q : ℕ) (es : Vec Expr Global) (n : ℕ) (h : Heap) (l : List Value) (g : FunctionInfo) (vs : List Value) (pl : Option act.Place) (k : Heap) (v u : Value) (r : Ref) (d m : ℕ) (o : Formula) (w : Symbolic) (st : State) (h' : Heap) (l' : List Value) → calls.Called E Agree agree_self agree_then agree_less Holds Is Has HeapIs has_says holds_eq holds_same holds_all holds_first holds_second an_integer is_integer a_reference is_refers Proper a_heap is_heap size Spotted holds_is is_false ranges_hold has_zero p number x f a Steady steady_proper steady_size code_stands pointer_has range_is hid line to c q es n h l g vs pl → Answers p x f (calls.calling E Agree agree_self agree_then agree_less Holds Is Has HeapIs has_says holds_eq holds_same holds_all holds_first holds_second an_integer is_integer a_reference is_refers Proper a_heap is_heap size Spotted holds_is is_false ranges_hold has_zero p number x f a Steady steady_proper steady_size code_stands pointer_has range_is q h g vs pl) h k v → pl ≡ Some (act.InField r d) → (act.convert_to (spot x [] line) c v (n + call_checks p to q es.items)).end ≡ Gave u
            → ActsTo p x f (act.store p (spot x [] line) (act.InField r d) u m (starting k l (Chosen []))) h' l' → (e : E) → Has e o (Refers r) → Stands e w u → Matches hid e st k (local l) → All e (facts (walk.store p a (walk.InField o d) w st).path) × Matches hid e (walk.store p a (walk.InField o d) w st).gives h' (local l'))
            (field_fails : (label : ℕ) (hid : ℕ → Bool) (line : ℕ) (to : Receiver) (c : Option CType) (q : ℕ) (es : Vec Expr Global) (n : ℕ) (h : Heap) (l : List Value) (g : FunctionInfo) (vs : List Value) (pl : Option act.Place) (k : Heap) (v u : Value) (r : Ref) (d m : ℕ) (o : Formula) (w : Symbolic) (st : State) → calls.Called E Agree agree_self agree_then agree_less Holds Is Has HeapIs has_says holds_eq holds_same holds_all holds_first holds_second an_integer is_integer a_reference is_refers Proper a_heap is_heap size Spotted holds_is is_false ranges_hold has_zero p number x f a Steady steady_proper steady_size code_stands pointer_has range_is hid line to c q es n h l g vs pl → Answers p x f (calls.calling E Agree agree_self agree_then agree_less Holds Is Has HeapIs has_says holds_eq holds_same holds_all holds_first holds_second an_integer is_integer a_reference is_refers Proper a_heap is_heap size Spotted holds_is is_false ranges_hold has_zero p number x f a Steady steady_proper steady_size code_stands pointer_has range_is q h g vs pl) h k v → pl ≡ Some (act.InField r d) → (act.convert_to (spot x [] line) c v (n + call_checks p to q es.items)).end ≡ Gave u
            → FailsAt label (act.store p (spot x [] line) (act.InField r d) u m (starting k l (Chosen []))) → (e : E) → Has e o (Refers r) → Stands e w u → Matches hid e st k (local l) → FailsIn E Holds label m (walk.store p a (walk.InField o d) w st).path e)
            (entry_steady : Good p h0 → IsTrue (fit_parameters f args) → Steady h0 (args ++ zeros_of (drop f.parameters f.variables.items)))
            (spotted : (e : E) → HeapIs e (heap 0) h0 → calls.AllStand E Agree agree_self agree_then agree_less Holds Is Has HeapIs has_says holds_eq holds_same holds_all holds_first holds_second an_integer is_integer a_reference is_refers Proper a_heap is_heap size Spotted holds_is is_false ranges_hold e (entry_values f).values args → Spotted e)
            (good_holds : (e : E) (u : Formula) → HeapIs e u h0 → Good p h0 → Holds e (node kinds.Good (u ∷ [])))
            (entry_is : (e : E) → HeapIs e (entry_state f).heap h0 → calls.AllStand E Agree agree_self agree_then agree_less Holds Is Has HeapIs has_says holds_eq holds_same holds_all holds_first holds_second an_integer is_integer a_reference is_refers Proper a_heap is_heap size Spotted holds_is is_false ranges_hold e (entry_values f).values args → AllIs E Holds Is holds_is is_false e (clauses p (first_spot p f) f.requires_.items (term_call me (entry_state f).heap (entry_values f).values)) (clauses_hold p f.requires_.items (call_scene (thread t) h0 args)))
            (an_environment : E)
            (holds_yes : (e : E) → Holds e true_formula) (holds_and : (e : E) (g k : Formula) → Holds e g → Holds e k → Holds e (and' g k)) (holds_imp : (e : E) (g k : Formula) → Holds e (imp g k) → Holds e g → Holds e k)
          where
            -- no local run from this entry in which others do nothing before quiet code fails the check with this number, where its condition is valid
            pub local_ok : WellTyped p → Scoped p → ConversionsAreReceived p → slice_get p.functions.items number ≡ Some f → TextBody p number f TextAction TextSpec TextObject f.body.items → (label : ℕ) → IsValidAt E Holds label 1 (function_conditions p (Some f)) → Good p h0 → IsTrue (fit_parameters f args) → IsTrue (requires_hold p f (thread t) h0 args) → FailsBodyBy p x f (Lazily p x.me) label f.body.items 1 h0 (begin p x).locals → ⊥
            local_ok typed scoped plain there said label valid good fit requires r =
                let zs = zeros_of (drop f.parameters f.variables.items) in
                let steady = entry_steady good fit in
                let fits = parameters_fit f args zs fit (λ i. steady_values h0 (args ++ zs) steady i) in
                let entry = entry_environment E Agree agree_self agree_then agree_less Holds Is Has HeapIs has_says holds_eq holds_same holds_all holds_first holds_second an_integer is_integer a_reference is_refers Proper a_heap is_heap size Spotted holds_is is_false ranges_hold p f (thread t) h0 args sized spotted good_holds entry_is an_environment fits.0 (steady_proper h0 (args ++ zs) steady) fits.1 good requires zs in
                law.no_failure E Agree agree_self agree_then agree_less Holds Is Has HeapIs has_says holds_eq holds_same holds_all holds_first holds_second an_integer is_integer a_reference is_refers Proper a_heap is_heap size Spotted holds_is is_false ranges_hold has_zero holds_denied test_is p number x f TextAction TextSpec TextObject a refl sized Steady steady_proper steady_values steady_size moved_steady act_steady turns_steady call_steady unwrap_steady wrap_steady rely_holds good_told frame_holds code_stands pointer_has object_typed range_is code_breaks act_follows act_breaks unwrap_goes wrap_goes unwrap_fails wrap_fails inv_is leaves_is answers_steady result_named requires_is writes_is frame_is ensures_is field_goes field_fails label holds_yes holds_and holds_imp (at_entry p f) (entry_state f) h0 (args ++ zs) (entry_facts p f (first_spot p f) (entry_state f)) entry.0 entry.1
                (body_fits p typed scoped plain number f there TextAction TextSpec TextObject said a) (entry_sorted f) steady (λ ty is. subst (λ o. returns_value o f.body.items ≡ true) is (typed.returns number f there))
                (subst (λ cs. IsValidAt E Holds label 1 cs) (run_conditions p f) valid)
                (subst (λ o. FailsBodyBy p x f (Lazily p x.me) label f.body.items 1 h0 (begin_with o x).locals) there r)
