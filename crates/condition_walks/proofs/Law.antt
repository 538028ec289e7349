-- The law of one function: where the conditions of its body are valid, no local run of it fails a check.
use Rattle.std.proofs.Common.{◌≡◌, ℕ, ◌+◌, ◌==◌, inl, inr, Bool, true, false, ℤ, pos, List, [], ◌∷◌, map, length, take, slice_get, Option, Some, None, Vec, Global, refl, ap, sym, ◌∙◌, subst, arith, true≢false}
use Rattle.std.specs.Prelude.{IsTrue, IsFalse}
use Rattle.int_ranges.specs.declared.ctype.CType.{CType}
use Rattle.int_ranges.specs.Ranges as machine_range
use Rattle.object_types.specs.declared.references.Ref.{Ref}
use Rattle.object_types.specs.declared.values.Value.{Value}
use Rattle.object_types.specs.declared.values.Value.TheVariants.{Int, Ref as Refers}
use Rattle.object_types.specs.References.{is_reference}
use Rattle.object_types.specs.Values.{says, int, referent, truth}
use Rattle.object_types.specs.Sets.{every}
use Rattle.object_types.specs.Heap.{Heap}
use Rattle.method.specs.declared.program.DeclaredType.{DeclaredType}
use Rattle.method.specs.declared.program.DeclaredType.TheVariants.{Pointer}
use Rattle.method.specs.declared.program.Expr.{Expr}
use Rattle.method.specs.declared.program.Spec.{Spec}
use Rattle.method.specs.declared.program.Target.TheVariants.{Local, FieldOf}
use Rattle.method.specs.declared.program.Action.{Action}
use Rattle.method.specs.declared.program.FieldInfo.{FieldInfo}
use Rattle.method.specs.declared.program.Receiver.{Receiver}
use Rattle.method.specs.declared.program.Receiver.TheVariants.{Nobody, NewVariable, Place as Left}
use Rattle.method.specs.declared.program.Stmt.{Stmt, Row_of-Stmt}
use Rattle.method.specs.declared.program.Stmt.TheVariants.{Do, If', While', DoWhile', Unwrapping', Call, Return}
use Rattle.method.specs.declared.program.VariableInfo.{VariableInfo}
use Rattle.method.specs.declared.program.FunctionInfo.{FunctionInfo}
use Rattle.method.specs.declared.program.Program.{Program}
use Rattle.method.specs.Tables.{local, in_type}
use Rattle.method.specs.SpecValue.{holds}
use Rattle.method.specs.Rely.{Rely, Frame}
use Rattle.method.specs.WellFormed.{is_value}
use Rattle.method.specs.Typing.{Values as Ranges, is_pointer, has_type, call_ok, args_fit, receiver_ok, result_values, field_takes, point_to, values, ends_with_return, is_return, fits as fits_type, test as test_values}
use Rattle.method.specs.Scopes.{expr_in, receiver_in}
use Rattle.method.specs.Expressions.{Context, Gave, Tested, item_tests, may_write, eval, scene, call_scene, return_scene}
use Rattle.method.specs.Actions as act
use Rattle.method.specs.Actions.{Chosen, spot, starting, callee}
use Rattle.method.specs.Machine as machine_turn
use Rattle.method.specs.LocalRuns as local_run
use Rattle.method.specs.Legal.{Good}
use Rattle.method.specs.LocalRuns.{FailsAt, Lazily, ActsTo, Answers, Turns, ReachesBy, FailsBy, FailsBodyBy}
use Rattle.method.specs.Text.{call_checks, clauses_read, row_sets, stmt_checks}
use Rattle.terms.specs.declared.term.Kind.TheVariants as kinds
use Rattle.terms.specs.Formula.{Formula}
use Rattle.conditions.specs.Formulas.{true_formula, and', imp, node, nat, me, false_formula, not', eq, or', all_of, integer, reference, heap}
use Rattle.conditions.specs.Symbolic.{Symbolic, Truth, term, test, ranges}
use Rattle.conditions.specs.Paths.{Execution, Gives, after, fact, facts, checks, conditions}
use Rattle.conditions.specs.Code.{Spot, State, in_range, code, call_scene as term_call, return_scene as term_return, writable}
use Rattle.conditions.specs.Actions as walk
use Rattle.conditions.specs.Actions.{items_of, clauses, run_action}
use Rattle.conditions.specs.Statements.{interference, invariant_formulas, check_invariants, turns, return_checks, stmt, stmts, body_end, body}
use Rattle.conditions.specs.Statements as walk_stmt
use Rattle.conditions.specs.Ways.{AllHold, FailsIn, IsValidAt, StandsFor}
use Rattle.conditions.proofs.Same.{both_true}
use Rattle.conditions.proofs.Hiding.{after_stmt}
use Rattle.conditions.proofs.FromRuns as runs
use Rattle.conditions.proofs.FromRuns.{Count, count_of, IsWithin, within_self, one_integer, one_reference, one_heap, Values}
use Rattle.condition_walks.proofs.Kept.{meet_grows}
use Rattle.condition_walks.proofs.Rows.{row_grows, turn_grows, tail_grows, body_grows}
use Rattle.condition_walks.proofs.Sizes.{code_size}
use Rattle.conditions.proofs.Joins.{moved_checks}
use Rattle.condition_walks.proofs.StatementSizes.{turns_size, stmt_size, row_size}
use Rattle.condition_walks.proofs.Scoping.{known_seen}
use Rattle.condition_walks.proofs.TermSorts.{AllSorted, meet_sorted}
use Rattle.condition_walks.proofs.ActionSorts.{tested, run_action_sorted}
use Rattle.condition_walks.proofs.Checks.{AllIs}
use Rattle.condition_walks.proofs.Fitting as fitting
use Rattle.condition_walks.proofs.Fitting.{FitsExpr, ActionFits, FitsOther, LoopFits, SpecsFit, FitsReturn, ObjectFits, FitsBody, FitsStmt, turns_sorted, call_sorted, fits_expr}
use Rattle.condition_walks.proofs.Loops as loops
use Rattle.condition_walks.proofs.Calls as calls

module _ (E : Type 0)
    (Agree : Count → E → E → Type 0)
    (agree_self : (c : Count) (e : E) → Agree c e e)
    (agree_then : (c : Count) (d e f : E) → Agree c d e → Agree c e f → Agree c d f)
    (agree_less : (c d : Count) (e f : E) → IsWithin c d → Agree d e f → Agree c e f)
    (Holds : E → Formula → Type 0) (Is : E → Formula → Bool → Type 0) (Has : E → Formula → Value → Type 0) (HeapIs : E → Formula → Heap → Type 0)
    (has_says : (e : E) (x : Formula) (b : Bool) → Is e x b → Has e (term (Truth x)) (says b))
    (holds_eq : (e : E) (x y : Formula) (v : Value) → Has e x v → Has e y v → Holds e (eq x y))
    (holds_same : (e : E) (x y : Formula) (h : Heap) → HeapIs e x h → HeapIs e y h → Holds e (eq x y))
    (holds_all : (e : E) (fs : List Formula) → AllHold E Holds e fs → Holds e (all_of fs))
    (holds_first : (e : E) (x y : Formula) → Holds e x → Holds e (or' x y))
    (holds_second : (e : E) (x y : Formula) → Holds e y → Holds e (or' x y))
    (an_integer : (c : Count) (z : ℤ) → runs.Extension E Agree agree_self agree_then agree_less c (one_integer c))
    (is_integer : (c : Count) (z : ℤ) (e : E) → (an_integer c z).So e → Has e (integer c.integers) (Int z))
    (a_reference : (c : Count) (r : Ref) → is_reference r ≡ true → runs.Extension E Agree agree_self agree_then agree_less c (one_reference c))
    (is_refers : (c : Count) (r : Ref) (named : is_reference r ≡ true) (e : E) → (a_reference c r named).So e → Has e (reference c.references) (Refers r))
    (Proper : Heap → Type 0)
    (a_heap : (c : Count) (h : Heap) → Proper h → runs.Extension E Agree agree_self agree_then agree_less c (one_heap c))
    (is_heap : (c : Count) (h : Heap) (proper : Proper h) (e : E) → (a_heap c h proper).So e → HeapIs e (heap c.heaps) h)
    (size : ℕ) (Spotted : E → Type 0)
    (holds_is : (e : E) (g : Formula) → Is e g true → Holds e g)
    (is_false : (e : E) (g : Formula) → Is e g false → ¬ Holds e g)
    (ranges_hold : (ty : DeclaredType) (w : Formula) (v : Value) → in_type ty v ≡ true → (e : E) → Has e w v → AllHold E Holds e (ranges ty w))
  where
    abbrev Extension : Count → Count → Type 1
    Extension = runs.Extension E Agree agree_self agree_then agree_less

    abbrev All : E → List Formula → Type 0
    All = AllHold E Holds

    abbrev Stands : E → Symbolic → Value → Type 0
    Stands e = StandsFor (Is e) (Has e)

    abbrev Shown : (ℕ → Bool) → E → ℕ → List Symbolic → Values → Type 0
    Shown = runs.Shown E Agree agree_self agree_then agree_less Holds Is Has HeapIs has_says holds_eq holds_same holds_all holds_first holds_second an_integer is_integer a_reference is_refers Proper a_heap is_heap size Spotted

    abbrev Matches : (ℕ → Bool) → E → State → Heap → Values → Type 0
    Matches = runs.Matches E Agree agree_self agree_then agree_less Holds Is Has HeapIs has_says holds_eq holds_same holds_all holds_first holds_second an_integer is_integer a_reference is_refers Proper a_heap is_heap size Spotted

    abbrev Follows : (ℕ → Bool) → (ℕ → Bool) → State → Execution State → Heap → Values → Heap → Values → Type 1
    Follows = runs.Follows E Agree agree_self agree_then agree_less Holds Is Has HeapIs has_says holds_eq holds_same holds_all holds_first holds_second an_integer is_integer a_reference is_refers Proper a_heap is_heap size Spotted

    abbrev Breaks : ℕ → ℕ → (ℕ → Bool) → State → Execution State → Heap → Values → Type 1
    Breaks = runs.Breaks E Agree agree_self agree_then agree_less Holds Is Has HeapIs has_says holds_eq holds_same holds_all holds_first holds_second an_integer is_integer a_reference is_refers Proper a_heap is_heap size Spotted

    abbrev follows_after : (a b c : ℕ → Bool) (st : State) (t : Execution State) (g : State → Execution State) (h h1 h2 : Heap) (l l1 l2 : Values) → Follows a b st t h l h1 l1 → Follows b c t.gives (g t.gives) h1 l1 h2 l2 → Follows a c st (after t g) h l h2 l2
    follows_after = runs.follows_after E Agree agree_self agree_then agree_less Holds Is Has HeapIs has_says holds_eq holds_same holds_all holds_first holds_second an_integer is_integer a_reference is_refers Proper a_heap is_heap size Spotted

    stands_term : (e : E) (x : Symbolic) (v : Value) → Stands e x v → Has e (term x) v
    stands_term = runs.stands_term E Agree agree_self agree_then agree_less Holds Is Has HeapIs has_says holds_eq holds_same holds_all holds_first holds_second an_integer is_integer a_reference is_refers Proper a_heap is_heap size Spotted

    within_extension : (c d : Count) → IsWithin c d → Extension c d
    within_extension = runs.no_extension E Agree agree_self agree_then agree_less

    module _ (has_zero : (e : E) → Has e (nat 0) (Int (pos 0)))
        (holds_denied : (e : E) (g : Formula) → Is e g false → Holds e (not' g))
        (test_is : (e : E) (w : Symbolic) (v : Value) → Stands e w v → Is e (test w) (truth v))
        (p : Program) (number : ℕ) (x : Context) (f : FunctionInfo) (TextAction : Action → Type 0) (TextSpec : Spec → Type 0) (TextObject : ℕ → ℕ → Type 0) (a : Spot)
        (outside : a.inside ≡ false)
        (sized : size ≡ length f.variables.items)
        (Steady : Heap → List Value → Type 0)
        (steady_proper : (h : Heap) (l : List Value) → Steady h l → Proper h)
        (steady_values : (h : Heap) (l : List Value) → Steady h l → (i : ℕ) → is_value (local l i) ≡ true)
        (steady_size : (h : Heap) (l : List Value) → Steady h l → length l ≡ size)
        -- what holds at each place of a run is kept
        (moved_steady : (b q : Bool) (h k : Heap) (l : List Value) → Steady h l → Lazily p x.me b q h k → Steady k l)
        (act_steady : (hid : ℕ → Bool) (line n : ℕ) (c : Action) (choices : List Value) (news : List Ref) (h h' : Heap) (l l' : List Value) → ActionFits p number f TextAction TextSpec TextObject hid c → Steady h l → ActsTo p x f (act.act p x choices (Chosen news) line c n h l) h' l' → Steady h' l')
        (turns_steady : (hid : ℕ → Bool) (invs : List Spec) (m : _) (row : Row_of-Stmt m) (h k : Heap) (l l1 : List Value) → LoopFits p number f TextAction TextSpec TextObject hid invs m row → Steady h l → Turns p x f invs (row_sets row) h k l l1 → Steady k l1)
        (call_steady : (hid : ℕ → Bool) (line : ℕ) (to : Receiver) (c : Option CType) (q : ℕ) (es : Vec Expr Global) (n : ℕ) (h h' : Heap) (l l' : List Value) → FitsOther p number f hid (Call line to c q es) → Steady h l → ReachesBy p x f (Lazily p x.me) (Call line to c q es) n h l h' l' → Steady h' l')
        (unwrap_steady : (ty q line n : ℕ) (c : Expr) (r : Ref) (h h' : Heap) (l l' : List Value) → ObjectFits p number f TextAction TextSpec TextObject ty q c → in_type (Pointer ty) (Refers r) ≡ true → Steady h l → ActsTo p x f (act.unwrap_object p (spot x [] line) r n (starting h l (Chosen []))) h' l' → Steady h' l')
        (wrap_steady : (ty q line n : ℕ) (c : Expr) (r : Ref) (h h' : Heap) (l l' : List Value) → ObjectFits p number f TextAction TextSpec TextObject ty q c → in_type (Pointer ty) (Refers r) ≡ true → Steady h l → ActsTo p x f (act.wrap_object p (spot x [] line) ty r n (starting h l (Chosen []))) h' l' → Steady h' l')
        -- rely and frame
        (rely_holds : (h k : Heap) (e : E) (u v : Formula) → Proper h → Proper k → Spotted e → HeapIs e u h → HeapIs e v k → Rely p x.me h k → Holds e (node kinds.Rely (me ∷ u ∷ v ∷ [])))
        (good_told : (h : Heap) (e : E) (u : Formula) → Proper h → Spotted e → HeapIs e u h → Good p h → Holds e (node kinds.Good (u ∷ [])))
        (frame_holds : (h k : Heap) (e : E) (u v : Formula) → Proper h → Proper k → Spotted e → HeapIs e u h → HeapIs e v k → Frame p x.me h k x.entry x.writes → Holds e (node kinds.Frame (me ∷ u ∷ v ∷ a.entry ∷ a.writes)))
        -- expressions
        (code_stands : (hid : ℕ → Bool) (line n : ℕ) (c : Expr) (st : State) (h : Heap) (l : List Value) (v : Value) → FitsExpr p number f hid c → Steady h l → (eval p (spot x [] line) h l c n).end ≡ Gave v → (e : E) → Matches hid e st h (local l) → All e (facts (code p a st c).path) × Stands e (code p a st c).gives v)
        (pointer_has : (hid : ℕ → Bool) (test : ℕ → Bool) (line n : ℕ) (c : Expr) (st : State) (h : Heap) (l : List Value) (v : Value) → FitsExpr p number f hid c → is_pointer p f test c ≡ true → Steady h l → (eval p (spot x [] line) h l c n).end ≡ Gave v → (e : E) → Matches hid e st h (local l) → Has e (term (code p a st c).gives) (Refers (referent v)))
        (object_typed : (hid : ℕ → Bool) (ty q line n : ℕ) (c : Expr) (h : Heap) (l : List Value) (v : Value) → FitsExpr p number f hid c → ObjectFits p number f TextAction TextSpec TextObject ty q c → Steady h l → (eval p (spot x [] line) h l c n).end ≡ Gave v → in_type (Pointer ty) v ≡ true)
        (range_is : (c : CType) (w : Symbolic) (v : Value) (e : E) → Stands e w v → Is e (in_range p a c (term w)) (machine_range.in_range c (int v)))
        (code_breaks : (label : ℕ) (hid : ℕ → Bool) (line n : ℕ) (c : Expr) (st : State) (h : Heap) (l : List Value) → FitsExpr p number f hid c → Steady h l → FailsAt label (eval p (spot x [] line) h l c n) → (e : E) → Matches hid e st h (local l) → FailsIn E Holds label n (code p a st c).path e)
        -- actions
        (act_follows : (hid : ℕ → Bool) (line n : ℕ) (c : Action) (choices : List Value) (news : List Ref) (st : State) (h h' : Heap) (l l' : List Value) → ActionFits p number f TextAction TextSpec TextObject hid c → AllSorted f.variables.items st.locals → Steady h l → ActsTo p x f (act.act p x choices (Chosen news) line c n h l) h' l' → Follows hid (after_stmt (Do line c) hid) st (run_action p a f c st) h (local l) h' (local l'))
        (act_breaks : (label : ℕ) (hid : ℕ → Bool) (line n : ℕ) (c : Action) (choices : List Value) (news : List Ref) (st : State) (h : Heap) (l : List Value) → ActionFits p number f TextAction TextSpec TextObject hid c → AllSorted f.variables.items st.locals → Steady h l → FailsAt label (act.act p x choices (Chosen news) line c n h l) → Breaks label n hid st (run_action p a f c st) h (local l))
        (unwrap_goes : (hid : ℕ → Bool) (ty q line n : ℕ) (c : Expr) (o : Formula) (r : Ref) (st : State) (h h' : Heap) (l l' : List Value) → ObjectFits p number f TextAction TextSpec TextObject ty q c → in_type (Pointer ty) (Refers r) ≡ true → Steady h l → ActsTo p x f (act.unwrap_object p (spot x [] line) r n (starting h l (Chosen []))) h' l' → (e : E) → Has e o (Refers r) → Matches hid e st h (local l) → All e (facts (walk.unwrap_object p a o st).path) × Matches hid e (walk.unwrap_object p a o st).gives h' (local l'))
        (wrap_goes : (hid : ℕ → Bool) (ty q line n : ℕ) (c : Expr) (o : Formula) (r : Ref) (st : State) (h h' : Heap) (l l' : List Value) → ObjectFits p number f TextAction TextSpec TextObject ty q c → in_type (Pointer ty) (Refers r) ≡ true → Steady h l → ActsTo p x f (act.wrap_object p (spot x [] line) ty r n (starting h l (Chosen []))) h' l' → (e : E) → Has e o (Refers r) → Matches hid e st h (local l) → All e (facts (walk.wrap_object p a ty q o st).path) × Matches hid e (walk.wrap_object p a ty q o st).gives h' (local l'))
        (unwrap_fails : (label : ℕ) (hid : ℕ → Bool) (ty q line n : ℕ) (c : Expr) (o : Formula) (r : Ref) (st : State) (h : Heap) (l : List Value) → ObjectFits p number f TextAction TextSpec TextObject ty q c → in_type (Pointer ty) (Refers r) ≡ true → Steady h l → FailsAt label (act.unwrap_object p (spot x [] line) r n (starting h l (Chosen []))) → (e : E) → Has e o (Refers r) → Matches hid e st h (local l) → FailsIn E Holds label n (walk.unwrap_object p a o st).path e)
        (wrap_fails : (label : ℕ) (hid : ℕ → Bool) (ty q line n : ℕ) (c : Expr) (o : Formula) (r : Ref) (st : State) (h : Heap) (l : List Value) → ObjectFits p number f TextAction TextSpec TextObject ty q c → in_type (Pointer ty) (Refers r) ≡ true → Steady h l → FailsAt label (act.wrap_object p (spot x [] line) ty r n (starting h l (Chosen []))) → (e : E) → Has e o (Refers r) → Matches hid e st h (local l) → FailsIn E Holds label n (walk.wrap_object p a ty q o st).path e)
        -- invariants of loops
        (inv_is : (hid : ℕ → Bool) (invs : List Spec) (st : State) (h : Heap) (l : List Value) → SpecsFit p number f TextAction TextSpec TextObject hid invs → AllSorted f.variables.items st.locals → Steady h l → (e : E) → Matches hid e st h (local l) → AllIs E Holds Is holds_is is_false e (invariant_formulas p f a invs st) (map (λ g. holds p g (scene x h l)) invs))
        -- the contract, at a return
        (leaves_is : (label : ℕ) (hid : ℕ → Bool) (line n : ℕ) (c : Option Expr) (st : State) (h : Heap) (l : List Value) (v : Value) → FitsReturn p number f hid c → AllSorted f.variables.items st.locals → Steady h l → (machine_turn.value_of p (spot x [] line) c h l n).end ≡ Gave v → (e : E) → Matches hid e st h (local l) → Stands e (walk_stmt.value_of p f a c st).gives v
        → AllIs E Holds Is holds_is is_false e (clauses p a f.ensures_.items (term_return a.entry a.args st.heap (walk_stmt.value_of p f a c st).gives)) (map (λ d. holds p d.spec (return_scene x h v)) f.ensures_.items))
        -- calls
        (answers_steady : (hid : ℕ → Bool) (line : ℕ) (to : Receiver) (c : Option CType) (q : ℕ) (es : Vec Expr Global) (n : ℕ) (h : Heap) (l : List Value) (g : FunctionInfo) (vs : List Value) (pl : Option act.Place) (k : Heap) (v : Value) → calls.Called E Agree agree_self agree_then agree_less Holds Is Has HeapIs has_says holds_eq holds_same holds_all holds_first holds_second an_integer is_integer a_reference is_refers Proper a_heap is_heap size Spotted holds_is is_false ranges_hold has_zero p number x f a Steady steady_proper steady_size code_stands pointer_has range_is hid line to c q es n h l g vs pl → Answers p x f (calls.calling E Agree agree_self agree_then agree_less Holds Is Has HeapIs has_says holds_eq holds_same holds_all holds_first holds_second an_integer is_integer a_reference is_refers Proper a_heap is_heap size Spotted holds_is is_false ranges_hold has_zero p number x f a Steady steady_proper steady_size code_stands pointer_has range_is q h g vs pl) h k v → Steady k l)
        (result_named : (hid : ℕ → Bool) (line : ℕ) (to : Receiver) (c : Option CType) (q : ℕ) (es : Vec Expr Global) (n : ℕ) (h : Heap) (l : List Value) (g : FunctionInfo) (vs : List Value) (pl : Option act.Place) (k : Heap) (v : Value) → calls.Called E Agree agree_self agree_then agree_less Holds Is Has HeapIs has_says holds_eq holds_same holds_all holds_first holds_second an_integer is_integer a_reference is_refers Proper a_heap is_heap size Spotted holds_is is_false ranges_hold has_zero p number x f a Steady steady_proper steady_size code_stands pointer_has range_is hid line to c q es n h l g vs pl → Answers p x f (calls.calling E Agree agree_self agree_then agree_less Holds Is Has HeapIs has_says holds_eq holds_same holds_all holds_first holds_second an_integer is_integer a_reference is_refers Proper a_heap is_heap size Spotted holds_is is_false ranges_hold has_zero p number x f a Steady steady_proper steady_size code_stands pointer_has range_is q h g vs pl) h k v → is_value v ≡ true)
        (requires_is : (hid : ℕ → Bool) (line : ℕ) (to : Receiver) (c : Option CType) (q : ℕ) (es : Vec Expr Global) (n : ℕ) (h : Heap) (l : List Value) (g : FunctionInfo) (vs : List Value) (pl : Option act.Place) (st : State) (ws : List Symbolic) → calls.Called E Agree agree_self agree_then agree_less Holds Is Has HeapIs has_says holds_eq holds_same holds_all holds_first holds_second an_integer is_integer a_reference is_refers Proper a_heap is_heap size Spotted holds_is is_false ranges_hold has_zero p number x f a Steady steady_proper steady_size code_stands pointer_has range_is hid line to c q es n h l g vs pl → (e : E) → Matches hid e st h (local l) → calls.AllStand E Agree agree_self agree_then agree_less Holds Is Has HeapIs has_says holds_eq holds_same holds_all holds_first holds_second an_integer is_integer a_reference is_refers Proper a_heap is_heap size Spotted holds_is is_false ranges_hold e ws vs → AllIs E Holds Is holds_is is_false e (clauses p a g.requires_.items (term_call me st.heap ws)) (map (λ d. holds p d.spec (call_scene x.me h vs)) g.requires_.items))
        (writes_is : (hid : ℕ → Bool) (line : ℕ) (to : Receiver) (c : Option CType) (q : ℕ) (es : Vec Expr Global) (n : ℕ) (h : Heap) (l : List Value) (g : FunctionInfo) (vs : List Value) (pl : Option act.Place) (st : State) (ws : List Symbolic) → calls.Called E Agree agree_self agree_then agree_less Holds Is Has HeapIs has_says holds_eq holds_same holds_all holds_first holds_second an_integer is_integer a_reference is_refers Proper a_heap is_heap size Spotted holds_is is_false ranges_hold has_zero p number x f a Steady steady_proper steady_size code_stands pointer_has range_is hid line to c q es n h l g vs pl → (e : E) → Matches hid e st h (local l) → calls.AllStand E Agree agree_self agree_then agree_less Holds Is Has HeapIs has_says holds_eq holds_same holds_all holds_first holds_second an_integer is_integer a_reference is_refers Proper a_heap is_heap size Spotted holds_is is_false ranges_hold e ws vs → AllIs E Holds Is holds_is is_false e (map (λ o. writable p a o) (items_of p a g.writes.items (term_call me st.heap ws))) (map (λ (t : Tested). t.holds) (item_tests p (may_write (spot x [] line)) g.writes.items (call_scene x.me h vs))))
        (frame_is : (hid : ℕ → Bool) (line : ℕ) (to : Receiver) (c : Option CType) (q : ℕ) (es : Vec Expr Global) (n : ℕ) (h : Heap) (l : List Value) (g : FunctionInfo) (vs : List Value) (pl : Option act.Place) (st : State) (ws : List Symbolic) (k : Heap) (u : Formula) → calls.Called E Agree agree_self agree_then agree_less Holds Is Has HeapIs has_says holds_eq holds_same holds_all holds_first holds_second an_integer is_integer a_reference is_refers Proper a_heap is_heap size Spotted holds_is is_false ranges_hold has_zero p number x f a Steady steady_proper steady_size code_stands pointer_has range_is hid line to c q es n h l g vs pl → (e : E) → Matches hid e st h (local l) → calls.AllStand E Agree agree_self agree_then agree_less Holds Is Has HeapIs has_says holds_eq holds_same holds_all holds_first holds_second an_integer is_integer a_reference is_refers Proper a_heap is_heap size Spotted holds_is is_false ranges_hold e ws vs → Proper k → HeapIs e u k → Frame p x.me h k h (callee p q g x.me h vs).writes → Holds e (node kinds.Frame (me ∷ st.heap ∷ u ∷ st.heap ∷ items_of p a g.writes.items (term_call me st.heap ws))))
        (ensures_is : (hid : ℕ → Bool) (line : ℕ) (to : Receiver) (c : Option CType) (q : ℕ) (es : Vec Expr Global) (n : ℕ) (h : Heap) (l : List Value) (g : FunctionInfo) (vs : List Value) (pl : Option act.Place) (st : State) (ws : List Symbolic) (k : Heap) (u : Formula) (v : Value) (w : Symbolic) → calls.Called E Agree agree_self agree_then agree_less Holds Is Has HeapIs has_says holds_eq holds_same holds_all holds_first holds_second an_integer is_integer a_reference is_refers Proper a_heap is_heap size Spotted holds_is is_false ranges_hold has_zero p number x f a Steady steady_proper steady_size code_stands pointer_has range_is hid line to c q es n h l g vs pl → Answers p x f (calls.calling E Agree agree_self agree_then agree_less Holds Is Has HeapIs has_says holds_eq holds_same holds_all holds_first holds_second an_integer is_integer a_reference is_refers Proper a_heap is_heap size Spotted holds_is is_false ranges_hold has_zero p number x f a Steady steady_proper steady_size code_stands pointer_has range_is q h g vs pl) h k v → (e : E) → Matches hid e st h (local l) → calls.AllStand E Agree agree_self agree_then agree_less Holds Is Has HeapIs has_says holds_eq holds_same holds_all holds_first holds_second an_integer is_integer a_reference is_refers Proper a_heap is_heap size Spotted holds_is is_false ranges_hold e ws vs → HeapIs e u k → Stands e w v → AllIs E Holds Is holds_is is_false e (clauses p a g.ensures_.items (term_return st.heap ws u w)) (map (λ d. holds p d.spec (return_scene (callee p q g x.me h vs) k v)) g.ensures_.items))
        (field_goes : (hid : ℕ → Bool) (line : ℕ) (to : Receiver) (c : Option CType) (q : ℕ) (es : Vec Expr Global) (n : ℕ) (h : Heap) (l : List Value) (g : FunctionInfo) (vs : List Value) (pl : Option act.Place) (k : Heap) (v u : Value) (r : Ref) (d m : ℕ) (o : Formula) (w : Symbolic) (st : State) (h' : Heap) (l' : List Value) → calls.Called E Agree agree_self agree_then agree_less Holds Is Has HeapIs has_says holds_eq holds_same holds_all holds_first holds_second an_integer is_integer a_reference is_refers Proper a_heap is_heap size Spotted holds_is is_false ranges_hold has_zero p number x f a Steady steady_proper steady_size code_stands pointer_has range_is hid line to c q es n h l g vs pl → Answers p x f (calls.calling E Agree agree_self agree_then agree_less Holds Is Has HeapIs has_says holds_eq holds_same holds_all holds_first holds_second an_integer is_integer a_reference is_refers Proper a_heap is_heap size Spotted holds_is is_false ranges_hold has_zero p number x f a Steady steady_proper steady_size code_stands pointer_has range_is q h g vs pl) h k v → pl ≡ Some (act.InField r d) → (act.convert_to (spot x [] line) c v (n + call_checks p to q es.items)).end ≡ Gave u
        → ActsTo p x f (act.store p (spot x [] line) (act.InField r d) u m (starting k l (Chosen []))) h' l' → (e : E) → Has e o (Refers r) → Stands e w u → Matches hid e st k (local l) → All e (facts (walk.store p a (walk.InField o d) w st).path) × Matches hid e (walk.store p a (walk.InField o d) w st).gives h' (local l'))
        (field_fails : (label : ℕ) (hid : ℕ → Bool) (line : ℕ) (to : Receiver) (c : Option CType) (q : ℕ) (es : Vec Expr Global) (n : ℕ) (h : Heap) (l : List Value) (g : FunctionInfo) (vs : List Value) (pl : Option act.Place) (k : Heap) (v u : Value) (r : Ref) (d m : ℕ) (o : Formula) (w : Symbolic) (st : State) → calls.Called E Agree agree_self agree_then agree_less Holds Is Has HeapIs has_says holds_eq holds_same holds_all holds_first holds_second an_integer is_integer a_reference is_refers Proper a_heap is_heap size Spotted holds_is is_false ranges_hold has_zero p number x f a Steady steady_proper steady_size code_stands pointer_has range_is hid line to c q es n h l g vs pl → Answers p x f (calls.calling E Agree agree_self agree_then agree_less Holds Is Has HeapIs has_says holds_eq holds_same holds_all holds_first holds_second an_integer is_integer a_reference is_refers Proper a_heap is_heap size Spotted holds_is is_false ranges_hold has_zero p number x f a Steady steady_proper steady_size code_stands pointer_has range_is q h g vs pl) h k v → pl ≡ Some (act.InField r d) → (act.convert_to (spot x [] line) c v (n + call_checks p to q es.items)).end ≡ Gave u
        → FailsAt label (act.store p (spot x [] line) (act.InField r d) u m (starting k l (Chosen []))) → (e : E) → Has e o (Refers r) → Stands e w u → Matches hid e st k (local l) → FailsIn E Holds label m (walk.store p a (walk.InField o d) w st).path e)
      where
        -- before an item that doesn't use the heap, one that is quiet, and any other
        moved_follows : (hid : ℕ → Bool) (b q : Bool) (h k : Heap) (l : List Value) (st : State) → Steady h l → Lazily p x.me b q h k → Follows hid hid st (interference b q st) h (local l) k (local l)
        moved_follows hid true true h k l st steady moves =
            record { extension = within_extension (count_of st) (count_of st) (within_self (count_of st)); goes = (λ e so m. ((good_told h e st.heap (steady_proper h l steady) m.spot m.heap moves.1, tt), subst (λ (y : Heap). Matches hid e st y (local l)) moves.0 m)) }
        moved_follows hid true false h k l st steady moves =
            loops.new_heap_follows E Agree agree_self agree_then agree_less Holds Is Has HeapIs has_says holds_eq holds_same holds_all holds_first holds_second an_integer is_integer a_reference is_refers Proper a_heap is_heap size Spotted holds_is is_false ranges_hold hid (node kinds.Rely (me ∷ st.heap ∷ heap st.heaps ∷ [])) st h k (local l) (steady_proper k l (moved_steady true false h k l steady moves)) (λ e m is. rely_holds h k e st.heap (heap st.heaps) (steady_proper h l steady) (steady_proper k l (moved_steady true false h k l steady moves)) m.spot m.heap is moves)
        moved_follows hid false q h k l st steady moves =
            record { extension = within_extension (count_of st) (count_of st) (within_self (count_of st)); goes = (λ e so m. (tt, subst (λ (y : Heap). Matches hid e st y (local l)) moves m)) }

        code_goes : (hid : ℕ → Bool) (line n : ℕ) (c : Expr) (st : State) (h : Heap) (l : List Value) (v : Value) → FitsExpr p number f hid c → Steady h l → (eval p (spot x [] line) h l c n).end ≡ Gave v → (e : E) → Matches hid e st h (local l) → All e (facts (code p a st c).path) × (IsTrue (truth v) → Holds e (test (code p a st c).gives)) × (IsFalse (truth v) → Holds e (not' (test (code p a st c).gives)))
        code_goes hid line n c st h l v fits steady y e m =
            let z = code_stands hid line n c st h l v fits steady y e m in
            let is = test_is e (code p a st c).gives v z.1 in
            (z.0, (λ k. holds_is e (test (code p a st c).gives) (subst (λ b. Is e (test (code p a st c).gives) b) k is)), (λ k. holds_denied e (test (code p a st c).gives) (subst (λ b. Is e (test (code p a st c).gives) b) k is)))

        -- a call's arguments and left side fit
        abbrev FitsAll : (ℕ → Bool) → List Expr → Type 0
        FitsAll = calls.FitsAll E Agree agree_self agree_then agree_less Holds Is Has HeapIs has_says holds_eq holds_same holds_all holds_first holds_second an_integer is_integer a_reference is_refers Proper a_heap is_heap size Spotted holds_is is_false ranges_hold has_zero p number x f a Steady steady_proper steady_size code_stands pointer_has range_is

        abbrev FitsTo : (ℕ → Bool) → Receiver → Type 0
        FitsTo = calls.FitsTo E Agree agree_self agree_then agree_less Holds Is Has HeapIs has_says holds_eq holds_same holds_all holds_first holds_second an_integer is_integer a_reference is_refers Proper a_heap is_heap size Spotted holds_is is_false ranges_hold has_zero p number x f a Steady steady_proper steady_size code_stands pointer_has range_is

        fits_all : (hid : ℕ → Bool) (is : List ℕ) (vars : List VariableInfo) (es : List Expr) → fitting.Seen p number f is hid → every (expr_in p f is) es ≡ true → args_fit p f vars es ≡ true → FitsAll hid es
        fits_all hid is vars [] seen i o = tt
        fits_all hid is [] (e ∷ es) seen i o = absurd (true≢false (sym o))
        fits_all hid is (w ∷ vars) (e ∷ es) seen i o =
            let y = both_true (expr_in p f is e) (every (expr_in p f is) es) i in
            let z = both_true (has_type p f e w.ty) (args_fit p f vars es) o in
            let t = tested p f (values p f e) (λ r. fits_type r w.ty) z.0 in
            (record { is = is; seen = seen; scoped = y.0; values_are = t.0; typed = t.1 }, fits_all hid is vars es seen y.1 z.1)

        fits_field : (hid : ℕ → Bool) (is : List ℕ) (c : Expr) (o : Option FieldInfo) (r : Option Ranges) → fitting.Seen p number f is hid → expr_in p f is c ≡ true → test_values p f (values p f c) (λ v. field_takes p f o v r) ≡ true → FitsExpr p number f hid c × ((test : ℕ → Bool) × (is_pointer p f test c ≡ true))
        fits_field hid is c None r seen i o = absurd (true≢false (sym (tested p f (values p f c) (λ v. false) o).2))
        fits_field hid is c (Some d) r seen i o =
            let t = tested p f (values p f c) (λ v. field_takes p f (Some d) v r) o in
            let k = both_true (point_to (λ n. n == d.of) t.0) (test_values p f r (λ w. fits_type w d.ty)) t.2 in
            (record { is = is; seen = seen; scoped = i; values_are = t.0; typed = t.1 }, ((λ n. n == d.of), ap (λ z. test_values p f z (point_to (λ n. n == d.of))) t.1 ∙ k.0))

        fits_to : (hid : ℕ → Bool) (is : List ℕ) (to : Receiver) (r : Option Ranges) → fitting.Seen p number f is hid → receiver_in p f is to ≡ true → receiver_ok p f to r ≡ true → FitsTo hid to
        fits_to hid is Nobody r seen i o = tt
        fits_to hid is (NewVariable j) r seen i o = tt
        fits_to hid is (Left (Local j)) r seen i o = tt
        fits_to hid is (Left (FieldOf c d)) r seen i o = fits_field hid is c (slice_get p.fields.items d) r seen i o

        fits_args : (hid : ℕ → Bool) (line : ℕ) (to : Receiver) (c : Option CType) (q : ℕ) (es : Vec Expr Global) → FitsOther p number f hid (Call line to c q es) → FitsAll hid es.items × FitsTo hid to
        fits_args hid line to c q es fits =
            let i = both_true (receiver_in p f fits.is to) (every (expr_in p f fits.is) es.items) fits.scoped in
            let o = both_true (call_ok p f (slice_get p.functions.items q) es.items) (receiver_ok p f to (result_values p f (slice_get p.functions.items q) c)) fits.typed in
            let seen = known_seen p f fits.is hid fits.place in
            (by_callee (slice_get p.functions.items q) seen i.1 o.0, fits_to hid fits.is to (result_values p f (slice_get p.functions.items q) c) seen i.0 o.1)
          where
            by_callee : (g : Option FunctionInfo) → fitting.Seen p number f fits.is hid → every (expr_in p f fits.is) es.items ≡ true → call_ok p f g es.items ≡ true → FitsAll hid es.items
            by_callee None seen i o = absurd (true≢false (sym o))
            by_callee (Some g) seen i o = fits_all hid fits.is (take g.parameters g.variables.items) es.items seen i (both_true (length es.items == g.parameters) (args_fit p f (take g.parameters g.variables.items) es.items) o).1

        -- The parts of the induction on statements.

        act_sorted : (hid : ℕ → Bool) (c : Action) (st : State) → ActionFits p number f TextAction TextSpec TextObject hid c → AllSorted f.variables.items st.locals → AllSorted f.variables.items (run_action p a f c st).gives.locals
        act_sorted hid c st fits s = run_action_sorted p f number a c st fits.0.typed s

        loop_sorted : (hid : ℕ → Bool) (invs : List Spec) (m : _) (row : Row_of-Stmt m) (st : State) → LoopFits p number f TextAction TextSpec TextObject hid invs m row → AllSorted f.variables.items st.locals → AllSorted f.variables.items (turns p f a invs row st).gives.locals
        loop_sorted hid invs m row st fits s = turns_sorted p f a invs m row st s

        object_has : (hid : ℕ → Bool) (ty q line n : ℕ) (c : Expr) (st : State) (h : Heap) (l : List Value) (v : Value) → FitsExpr p number f hid c → ObjectFits p number f TextAction TextSpec TextObject ty q c → Steady h l → (eval p (spot x [] line) h l c n).end ≡ Gave v → (e : E) → Matches hid e st h (local l) → Has e (term (code p a st c).gives) (Refers (referent v))
        object_has hid ty q line n c st h l v fits object steady y e m = pointer_has hid (λ n. n == ty) line n c st h l v fits object.0.typed steady y e m

        turns_follows : (hid : ℕ → Bool) (invs : List Spec) (m : _) (row : Row_of-Stmt m) (st : State) (h k : Heap) (l l1 : List Value) → LoopFits p number f TextAction TextSpec TextObject hid invs m row → AllSorted f.variables.items st.locals → Steady h l → Turns p x f invs (row_sets row) h k l l1 → Follows hid hid st (turns p f a invs row st) h (local l) k (local l1)
        turns_follows = loops.turns_follows E Agree agree_self agree_then agree_less Holds Is Has HeapIs has_says holds_eq holds_same holds_all holds_first holds_second an_integer is_integer a_reference is_refers Proper a_heap is_heap size Spotted holds_is is_false ranges_hold p number x f TextAction TextSpec TextObject a sized Steady steady_proper steady_values turns_steady inv_is frame_holds

        other_sorted : (hid : ℕ → Bool) (s : Stmt) (st : State) → FitsOther p number f hid s → AllSorted f.variables.items st.locals → AllSorted f.variables.items (stmt p f a s st).gives.locals
        other_sorted hid (Call line to c q es) st fits s = call_sorted p f a number line to c q es st fits.typed s
        other_sorted hid (Do line c) st fits s = absurd fits
        other_sorted hid (If' line in_ghost e m ra n rb) st fits s = absurd fits
        other_sorted hid (While' line invs e m row) st fits s = absurd fits
        other_sorted hid (DoWhile' line invs m row tested e) st fits s = absurd fits
        other_sorted hid (Unwrapping' line ty q e m row) st fits s = absurd fits
        other_sorted hid (Return line e) st fits s = absurd fits

        other_steady : (hid : ℕ → Bool) (s : Stmt) (n : ℕ) (h h' : Heap) (l l' : List Value) → FitsOther p number f hid s → Steady h l → ReachesBy p x f (Lazily p x.me) s n h l h' l' → Steady h' l'
        other_steady hid (Call line to c q es) n h h' l l' fits steady r = call_steady hid line to c q es n h h' l l' fits steady r
        other_steady hid (Do line c) n h h' l l' fits steady r = absurd fits
        other_steady hid (If' line in_ghost e m ra k rb) n h h' l l' fits steady r = absurd fits
        other_steady hid (While' line invs e m row) n h h' l l' fits steady r = absurd fits
        other_steady hid (DoWhile' line invs m row tested e) n h h' l l' fits steady r = absurd fits
        other_steady hid (Unwrapping' line ty q e m row) n h h' l l' fits steady r = absurd fits
        other_steady hid (Return line e) n h h' l l' fits steady r = absurd fits

        other_follows : (hid : ℕ → Bool) (s : Stmt) (n : ℕ) (st : State) (h h' : Heap) (l l' : List Value) → FitsOther p number f hid s → AllSorted f.variables.items st.locals → Steady h l → ReachesBy p x f (Lazily p x.me) s n h l h' l' → Follows hid (after_stmt s hid) st (stmt p f a s st) h (local l) h' (local l')
        other_follows hid (Call line to c q es) n st h h' l l' fits sorted steady r = calls.call_follows E Agree agree_self agree_then agree_less Holds Is Has HeapIs has_says holds_eq holds_same holds_all holds_first holds_second an_integer is_integer a_reference is_refers Proper a_heap is_heap size Spotted holds_is is_false ranges_hold has_zero p number x f a Steady steady_proper steady_size code_stands pointer_has range_is fits_args moved_steady moved_follows answers_steady result_named requires_is writes_is frame_is ensures_is field_goes hid line to c q es n st h h' l l' fits steady r
        other_follows hid (Do line c) n st h h' l l' fits sorted steady r = absurd fits
        other_follows hid (If' line in_ghost e m ra k rb) n st h h' l l' fits sorted steady r = absurd fits
        other_follows hid (While' line invs e m row) n st h h' l l' fits sorted steady r = absurd fits
        other_follows hid (DoWhile' line invs m row tested e) n st h h' l l' fits sorted steady r = absurd fits
        other_follows hid (Unwrapping' line ty q e m row) n st h h' l l' fits sorted steady r = absurd fits
        other_follows hid (Return line e) n st h h' l l' fits sorted steady r = absurd fits

        other_breaks : (label : ℕ) (hid : ℕ → Bool) (s : Stmt) (n : ℕ) (st : State) (h : Heap) (l : List Value) → FitsOther p number f hid s → AllSorted f.variables.items st.locals → Steady h l → FailsBy p x f (Lazily p x.me) label s n h l → Breaks label n hid st (stmt p f a s st) h (local l)
        other_breaks label hid (Call line to c q es) n st h l fits sorted steady r = calls.call_breaks E Agree agree_self agree_then agree_less Holds Is Has HeapIs has_says holds_eq holds_same holds_all holds_first holds_second an_integer is_integer a_reference is_refers Proper a_heap is_heap size Spotted holds_is is_false ranges_hold has_zero p number x f a Steady steady_proper steady_size code_stands pointer_has range_is fits_args moved_steady moved_follows answers_steady result_named requires_is writes_is frame_is ensures_is field_goes label (code_breaks label) (field_fails label) (leaves_is label) hid line to c q es n st h l fits steady r
        other_breaks label hid (Do line c) n st h l fits sorted steady r = absurd fits
        other_breaks label hid (If' line in_ghost e m ra k rb) n st h l fits sorted steady r = absurd fits
        other_breaks label hid (While' line invs e m row) n st h l fits sorted steady r = absurd fits
        other_breaks label hid (DoWhile' line invs m row tested e) n st h l fits sorted steady r = absurd fits
        other_breaks label hid (Unwrapping' line ty q e m row) n st h l fits sorted steady r = absurd fits
        other_breaks label hid (Return line e) n st h l fits sorted steady r = absurd fits

        turns_break : (label : ℕ) (hid : ℕ → Bool) (line n : ℕ) (invs : List Spec) (m : _) (row : Row_of-Stmt m) (st : State) (h : Heap) (l : List Value) → LoopFits p number f TextAction TextSpec TextObject hid invs m row → AllSorted f.variables.items st.locals → Steady h l → FailsAt label (local_run.invariants_at p x f line invs h l n) → Breaks label n hid st (turns p f a invs row st) h (local l)
        turns_break label = loops.turns_break E Agree agree_self agree_then agree_less Holds Is Has HeapIs has_says holds_eq holds_same holds_all holds_first holds_second an_integer is_integer a_reference is_refers Proper a_heap is_heap size Spotted holds_is is_false ranges_hold p number x f TextAction TextSpec TextObject a sized Steady steady_proper steady_values turns_steady inv_is frame_holds label

        invariants_break : (label : ℕ) (hid : ℕ → Bool) (line n : ℕ) (invs : List Spec) (st : State) (h : Heap) (l : List Value) → SpecsFit p number f TextAction TextSpec TextObject hid invs → AllSorted f.variables.items st.locals → Steady h l → FailsAt label (local_run.invariants_at p x f line invs h l n) → Breaks label n hid st (check_invariants p f a invs st) h (local l)
        invariants_break label = loops.invariants_break E Agree agree_self agree_then agree_less Holds Is Has HeapIs has_says holds_eq holds_same holds_all holds_first holds_second an_integer is_integer a_reference is_refers Proper a_heap is_heap size Spotted holds_is is_false ranges_hold p number x f TextAction TextSpec TextObject a sized Steady steady_proper steady_values turns_steady inv_is frame_holds label

        leaves_break : (label : ℕ) (hid : ℕ → Bool) (line n : ℕ) (c : Option Expr) (st : State) (h : Heap) (l : List Value) → FitsReturn p number f hid c → AllSorted f.variables.items st.locals → Steady h l → FailsAt label (local_run.returns p x f line c n h l) → Breaks label n hid st (return_checks p f a c st) h (local l)
        leaves_break label = calls.leaves_break E Agree agree_self agree_then agree_less Holds Is Has HeapIs has_says holds_eq holds_same holds_all holds_first holds_second an_integer is_integer a_reference is_refers Proper a_heap is_heap size Spotted holds_is is_false ranges_hold has_zero p number x f a Steady steady_proper steady_size code_stands pointer_has range_is fits_args moved_steady moved_follows answers_steady result_named requires_is writes_is frame_is ensures_is field_goes label (code_breaks label) (field_fails label) (leaves_is label)

        returns_break : (label : ℕ) (hid : ℕ → Bool) (line n : ℕ) (c : Option Expr) (st : State) (h : Heap) (l : List Value) → FitsReturn p number f hid c → AllSorted f.variables.items st.locals → Steady h l → FailsAt label (local_run.returns p x f line c n h l) → Breaks label n hid st (after (return_checks p f a c st) (λ st2. fact false_formula (Gives st2))) h (local l)
        returns_break label = calls.returns_break E Agree agree_self agree_then agree_less Holds Is Has HeapIs has_says holds_eq holds_same holds_all holds_first holds_second an_integer is_integer a_reference is_refers Proper a_heap is_heap size Spotted holds_is is_false ranges_hold has_zero p number x f a Steady steady_proper steady_size code_stands pointer_has range_is fits_args moved_steady moved_follows answers_steady result_named requires_is writes_is frame_is ensures_is field_goes label (code_breaks label) (field_fails label) (leaves_is label)

        -- Statements, and the body.

        pub stmt_follows : (s : Stmt) (hid : ℕ → Bool) (n : ℕ) (st : State) (h h' : Heap) (l l' : List Value) → FitsStmt p number f TextAction TextSpec TextObject a hid s → AllSorted f.variables.items st.locals → Steady h l → ReachesBy p x f (Lazily p x.me) s n h l h' l' → Follows hid (after_stmt s hid) st (stmt p f a s st) h (local l) h' (local l')
        stmt_follows = runs.follows_stmt E Agree agree_self agree_then agree_less Holds Is Has HeapIs has_says holds_eq holds_same holds_all holds_first holds_second an_integer is_integer a_reference is_refers Proper a_heap is_heap size Spotted p x f a (FitsExpr p number f) (ActionFits p number f TextAction TextSpec TextObject) (FitsOther p number f) (LoopFits p number f TextAction TextSpec TextObject) (SpecsFit p number f TextAction TextSpec TextObject) (FitsReturn p number f) Steady steady_proper steady_values moved_steady act_steady turns_steady moved_follows code_goes (AllSorted f.variables.items) act_follows turns_follows (row_grows p f a) (turn_grows p f a) (tail_grows p f a) act_sorted loop_sorted (meet_sorted f.variables.items) (ObjectFits p number f TextAction TextSpec TextObject) object_typed object_has unwrap_steady unwrap_goes wrap_steady wrap_goes other_sorted other_steady other_follows

        stmt_steady : (s : Stmt) (hid : ℕ → Bool) (n : ℕ) (h h' : Heap) (l l' : List Value) → FitsStmt p number f TextAction TextSpec TextObject a hid s → Steady h l → ReachesBy p x f (Lazily p x.me) s n h l h' l' → Steady h' l'
        stmt_steady = runs.steady_stmt E Agree agree_self agree_then agree_less Holds Is Has HeapIs has_says holds_eq holds_same holds_all holds_first holds_second an_integer is_integer a_reference is_refers Proper a_heap is_heap size Spotted p x f a (FitsExpr p number f) (ActionFits p number f TextAction TextSpec TextObject) (FitsOther p number f) (LoopFits p number f TextAction TextSpec TextObject) (SpecsFit p number f TextAction TextSpec TextObject) (FitsReturn p number f) Steady steady_proper steady_values moved_steady act_steady turns_steady moved_follows code_goes (AllSorted f.variables.items) act_follows turns_follows (row_grows p f a) (turn_grows p f a) (tail_grows p f a) act_sorted loop_sorted (meet_sorted f.variables.items) (ObjectFits p number f TextAction TextSpec TextObject) object_typed object_has unwrap_steady unwrap_goes wrap_steady wrap_goes other_sorted other_steady other_follows

        stmt_sorted : (s : Stmt) (hid : ℕ → Bool) (st : State) → FitsStmt p number f TextAction TextSpec TextObject a hid s → AllSorted f.variables.items st.locals → AllSorted f.variables.items (stmt p f a s st).gives.locals
        stmt_sorted = runs.sorted_stmt E Agree agree_self agree_then agree_less Holds Is Has HeapIs has_says holds_eq holds_same holds_all holds_first holds_second an_integer is_integer a_reference is_refers Proper a_heap is_heap size Spotted p x f a (FitsExpr p number f) (ActionFits p number f TextAction TextSpec TextObject) (FitsOther p number f) (LoopFits p number f TextAction TextSpec TextObject) (SpecsFit p number f TextAction TextSpec TextObject) (FitsReturn p number f) Steady steady_proper steady_values moved_steady act_steady turns_steady moved_follows code_goes (AllSorted f.variables.items) act_follows turns_follows (row_grows p f a) (turn_grows p f a) (tail_grows p f a) act_sorted loop_sorted (meet_sorted f.variables.items) (ObjectFits p number f TextAction TextSpec TextObject) object_typed object_has unwrap_steady unwrap_goes wrap_steady wrap_goes other_sorted other_steady other_follows

        module _ (label : ℕ) where
          pub stmt_breaks : (s : Stmt) (hid : ℕ → Bool) (n : ℕ) (st : State) (h : Heap) (l : List Value) → FitsStmt p number f TextAction TextSpec TextObject a hid s → AllSorted f.variables.items st.locals → Steady h l → FailsBy p x f (Lazily p x.me) label s n h l → Breaks label n hid st (stmt p f a s st) h (local l)
          stmt_breaks = runs.breaks_stmt E Agree agree_self agree_then agree_less Holds Is Has HeapIs has_says holds_eq holds_same holds_all holds_first holds_second an_integer is_integer a_reference is_refers Proper a_heap is_heap size Spotted p x f a (FitsExpr p number f) (ActionFits p number f TextAction TextSpec TextObject) (FitsOther p number f) (LoopFits p number f TextAction TextSpec TextObject) (SpecsFit p number f TextAction TextSpec TextObject) (FitsReturn p number f) Steady steady_proper steady_values moved_steady act_steady turns_steady moved_follows code_goes (AllSorted f.variables.items) act_follows turns_follows (row_grows p f a) (turn_grows p f a) (tail_grows p f a) act_sorted loop_sorted (meet_sorted f.variables.items) (ObjectFits p number f TextAction TextSpec TextObject) object_typed object_has unwrap_steady unwrap_goes wrap_steady wrap_goes other_sorted other_steady other_follows label (code_breaks label) (λ c st. code_size p a st c) (act_breaks label) (turns_break label) (turns_size p f a) (invariants_break label) (returns_break label) (other_breaks label) (unwrap_fails label) (wrap_fails label) (stmt_size p f a outside) (λ m row st. row_size p f a outside row st) meet_grows

          at_check : (n m : ℕ) (hid : ℕ → Bool) (st : State) (t : Execution State) (h : Heap) (l : Values) → n ≡ m → Breaks label n hid st t h l → Breaks label m hid st t h l
          at_check n m hid st t h l same y = subst (λ (k : ℕ). Breaks label k hid st t h l) same y

          moved_sorted : (b q : Bool) (st : State) → AllSorted f.variables.items st.locals → AllSorted f.variables.items (interference b q st).gives.locals
          moved_sorted true true st s = s
          moved_sorted true false st s = s
          moved_sorted false q st s = s

          -- no run comes out of a return
          no_return : (s : Stmt) (n : ℕ) (h h' : Heap) (l l' : List Value) → is_return s ≡ true → ReachesBy p x f (Lazily p x.me) s n h l h' l' → ⊥
          no_return (Return line e) n h h' l l' k r = r
          no_return (Do line c) n h h' l l' k r = true≢false (sym k)
          no_return (If' line in_ghost e m ra q rb) n h h' l l' k r = true≢false (sym k)
          no_return (While' line invs e m row) n h h' l l' k r = true≢false (sym k)
          no_return (DoWhile' line invs m row tested e) n h h' l l' k r = true≢false (sym k)
          no_return (Unwrapping' line ty q e m row) n h h' l l' k r = true≢false (sym k)
          no_return (Call line to c q es) n h h' l l' k r = true≢false (sym k)

          end_breaks : (ty : Option DeclaredType) → f.result ≡ ty → (hid : ℕ → Bool) (n : ℕ) (st : State) (h : Heap) (l : List Value) → (f.result ≡ None → FitsReturn p number f hid None) → AllSorted f.variables.items st.locals → Steady h l → ((t : DeclaredType) → f.result ≡ Some t → ⊥) → FailsBodyBy p x f (Lazily p x.me) label [] n h l → Breaks label n hid st (body_end p f a ty st) h (local l)
          end_breaks (Some ty) is hid n st h l fits sorted steady ends r = absurd (ends ty is)
          end_breaks None is hid n st h l fits sorted steady ends r =
              let b = clauses_read f.ensures_.items in
              let k = r.0 in
              let none : checks (interference b false st).path ≡ 0 = moved_checks b false st in
              runs.breaks_then E Agree agree_self agree_then agree_less Holds Is Has HeapIs has_says holds_eq holds_same holds_all holds_first holds_second an_integer is_integer a_reference is_refers Proper a_heap is_heap size Spotted label n hid hid st (interference b false st) (λ s. return_checks p f a None s) h k (local l) (local l) (moved_follows hid b false h k l st steady r.1)
              (at_check n (n + checks (interference b false st).path) hid (interference b false st).gives (return_checks p f a None (interference b false st).gives) k (local l) (omega (arith, none)) (leaves_break label hid f.end n None (interference b false st).gives k l (fits is) (moved_sorted b false st sorted) (moved_steady b false h k l steady r.1) r.2))

          pub body_breaks : (ss : List Stmt) (hid : ℕ → Bool) (n : ℕ) (st : State) (h : Heap) (l : List Value) → FitsBody p number f TextAction TextSpec TextObject a hid ss → AllSorted f.variables.items st.locals → Steady h l → ((t : DeclaredType) → f.result ≡ Some t → ends_with_return ss ≡ true) → FailsBodyBy p x f (Lazily p x.me) label ss n h l → Breaks label n hid st (body p f a ss st) h (local l)
          body_breaks [] hid n st h l fits sorted steady ends r = end_breaks f.result refl hid n st h l fits sorted steady (λ t is. true≢false (sym (ends t is))) r
          body_breaks (s ∷ ss) hid n st h l fits sorted steady ends (inl r) =
              runs.breaks_first E Agree agree_self agree_then agree_less Holds Is Has HeapIs has_says holds_eq holds_same holds_all holds_first holds_second an_integer is_integer a_reference is_refers Proper a_heap is_heap size Spotted label n hid st (stmt p f a s st) (λ s1. body p f a ss s1) h (local l) (body_grows p f a ss (stmt p f a s st).gives) (stmt_breaks s hid n st h l fits.0 sorted steady r)
          body_breaks (s ∷ ss) hid n st h l fits sorted steady ends (inr r) =
              let st1 = (stmt p f a s st).gives in
              runs.breaks_then E Agree agree_self agree_then agree_less Holds Is Has HeapIs has_says holds_eq holds_same holds_all holds_first holds_second an_integer is_integer a_reference is_refers Proper a_heap is_heap size Spotted label n hid (after_stmt s hid) st (stmt p f a s st) (λ s1. body p f a ss s1) h r.0 (local l) (local r.1) (stmt_follows s hid n st h r.0 l r.1 fits.0 sorted steady r.2)
              (at_check (n + stmt_checks p f s) (n + checks (stmt p f a s st).path) (after_stmt s hid) st1 (body p f a ss st1) r.0 (local r.1) (ap (λ k. n + k) (sym (stmt_size p f a outside s st)))
              (body_breaks ss (after_stmt s hid) (n + stmt_checks p f s) st1 r.0 r.1 fits.1 (stmt_sorted s hid st fits.0 sorted) (stmt_steady s hid n h r.0 l r.1 fits.0 steady r.2) (λ t is. last ss (ends t is)) r.3))
            where
              last : (ss : List Stmt) → ends_with_return (s ∷ ss) ≡ true → ends_with_return ss ≡ true
              last [] e = absurd (no_return s n h r.0 l r.1 e r.2)
              last (t ∷ ss) e = e

          -- where the condition of a check is valid, no run of the body fails it
          pub no_failure : (holds_yes : (e : E) → Holds e true_formula) (holds_and : (e : E) (g k : Formula) → Holds e g → Holds e k → Holds e (and' g k)) (holds_imp : (e : E) (g k : Formula) → Holds e (imp g k) → Holds e g → Holds e k)
              (hid : ℕ → Bool) (st : State) (h : Heap) (l : List Value) (known : List Formula) (e : E) → ((d : E) → Agree (count_of st) e d → All d known × Matches hid d st h (local l))
              → FitsBody p number f TextAction TextSpec TextObject a hid f.body.items → AllSorted f.variables.items st.locals → Steady h l → ((t : DeclaredType) → f.result ≡ Some t → ends_with_return f.body.items ≡ true)
              → IsValidAt E Holds label 1 (conditions known (body p f a f.body.items st).path) → FailsBodyBy p x f (Lazily p x.me) label f.body.items 1 h l → ⊥
          no_failure holds_yes holds_and holds_imp hid st h l known e entry fits sorted steady ends valid r =
              runs.nothing_breaks E Agree agree_self agree_then agree_less Holds Is Has HeapIs has_says holds_eq holds_same holds_all holds_first holds_second an_integer is_integer a_reference is_refers Proper a_heap is_heap size Spotted holds_yes holds_and holds_imp label 1 hid st (body p f a f.body.items st) h (local l) known e entry valid (body_breaks f.body.items hid 1 st h l fits sorted steady ends r)
