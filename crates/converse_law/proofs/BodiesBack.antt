-- From an environment to a run, of a body of plain code: where a check of its path isn't known true, a lazy run fails it.
use Rattle.std.proofs.Common.{◌≡◌, ℕ, ◌+◌, inl, inr, ⊎_elim, Bool, true, false, List, [], ◌∷◌, slice_get, Option, Some, None, refl, ap, subst}
use Rattle.object_types.specs.declared.references.Ref.{Ref}
use Rattle.object_types.specs.declared.values.Value.{Value}
use Rattle.object_types.specs.declared.values.Value.TheVariants.{Int, Ref as Refers}
use Rattle.object_types.specs.Heap.{Heap}
use Rattle.method.specs.declared.program.DeclaredType.{DeclaredType}
use Rattle.method.specs.declared.program.Action.{Action}
use Rattle.method.specs.declared.program.Spec.{Spec}
use Rattle.method.specs.declared.program.Stmt.{Stmt, Row_of-Stmt}
use Rattle.method.specs.declared.program.Stmt.TheVariants.{Do, If', While', DoWhile', Unwrapping', Call, Return}
use Rattle.method.specs.declared.program.FunctionInfo.{FunctionInfo}
use Rattle.method.specs.declared.program.Program.{Program}
use Rattle.method.specs.Legal.{Good}
use Rattle.method.specs.Machine.{fit_parameters}
use Rattle.method.specs.Typing.{WellTyped}
use Rattle.method.specs.Text.{clauses_read, row_sets, stmt_checks}
use Rattle.method.specs.Expressions.{Context}
use Rattle.method.specs.Actions as act
use Rattle.method.specs.Actions.{Chosen}
use Rattle.method.specs.LocalRuns.{Lazily, ActsTo, FailsAt, Turns, ReachesBy, FailsBy, FailsBodyBy, invariants_at}
use Rattle.modular_law.proofs.Declared.{row_declared}
use Rattle.axiom_instances.proofs.Facts.{Shown as ShownHeap}
use Rattle.conditions.specs.Formulas.{integer, reference, heap}
use Rattle.conditions.specs.Paths.{Execution, after, facts}
use Rattle.terms.specs.Formula.{Formula}
use Rattle.term_meaning.specs.Meaning.{Language}
use Rattle.conditions.specs.Code.{Spot, State}
use Rattle.conditions.specs.Actions.{run_action}
use Rattle.conditions.specs.Statements.{interference, turns, check_invariants, stmt, body, body_end, return_checks}
use Rattle.conditions.specs.Ways.{AllHold, FailsIn}
use Rattle.conditions.proofs.Ways.{fails_joined}
use Rattle.conditions.proofs.ToRuns as runs
use Rattle.conditions.proofs.Joins as joins
use Rattle.conditions.proofs.Hiding.{after_stmt}
use Rattle.condition_walks.proofs.Sizes.{code_size}
use Rattle.condition_walks.proofs.StatementSizes.{turns_size, stmt_size, row_size}
use Rattle.condition_walks.proofs.TermSorts.{AllSorted, meet_sorted}
use Rattle.condition_walks.proofs.ActionSorts.{run_action_sorted}
use Rattle.condition_walks.proofs.Fitting.{FitsExpr, FitsOther, FitsReturn, FitsStmt, FitsBody, ActionFits, ObjectFits, SpecsFit, LoopFits, turns_sorted, call_sorted}
use Rattle.condition_meaning.specs.Annotated.{Annotated}
use Rattle.condition_meaning.specs.FunctionWords.{ContractFits}
use Rattle.condition_meaning.proofs.Environments.{Environment, Is, Has, has_says}
use Rattle.condition_meaning.proofs.Known.{has_equal, heap_equal, known_parts, known_or, known_other, known_never, known_not}
use Rattle.condition_meaning.proofs.Interference.{good_of, rely_of, heap_of}
use Rattle.action_conditions.proofs.Steady.{Steady, moved_steady}
use Rattle.converse_law.proofs.Parts as parts
use Rattle.converse_law.proofs.LoopsBack as loops
use Rattle.converse_law.proofs.ActsBack as acts
use Rattle.converse_law.proofs.CallsBack as call_runs

module _ (p : Program) (good : Annotated p) (typed : WellTyped p) (contracts : (n : ℕ) (g : FunctionInfo) → slice_get p.functions.items n ≡ Some g → ContractFits p g)
    (number : ℕ) (f : FunctionInfo) (fis : slice_get p.functions.items number ≡ Some f) (n0 : ℕ) (h0 : Heap) (args : List Value) (good0 : Good p h0) (fit : fit_parameters f args ≡ true)
    (e : Environment (parts.l p good typed contracts number f fis n0 h0 args good0 fit) (parts.T p good typed contracts number f fis n0 h0 args good0 fit)) (spotted : parts.Spotted p good typed contracts number f fis n0 h0 args good0 fit e) (label : ℕ)
  where
    abbrev l : Language
    l = parts.l p good typed contracts number f fis n0 h0 args good0 fit

    abbrev T : Ref
    T = parts.T p good typed contracts number f fis n0 h0 args good0 fit

    abbrev x : Context
    x = parts.x p good typed contracts number f fis n0 h0 args good0 fit

    abbrev a : Spot
    a = parts.a p good typed contracts number f fis n0 h0 args good0 fit

    abbrev size : ℕ
    size = parts.size p good typed contracts number f fis n0 h0 args good0 fit

    abbrev TA : Action → Type 0
    TA = acts.ActText p good typed contracts number f fis n0 h0 args good0 fit

    abbrev TS : Spec → Type 0
    TS = parts.TextSpec p good typed contracts number f fis n0 h0 args good0 fit

    abbrev TW : ℕ → ℕ → Type 0
    TW = parts.TextWrap p good typed contracts number f fis n0 h0 args good0 fit

    abbrev Knows : Unit {0} → Formula → Type 0
    Knows = parts.Knows p good typed contracts number f fis n0 h0 args good0 fit e spotted

    abbrev Matches : (ℕ → Bool) → Unit {0} → State → Heap → List Value → Type 0
    Matches = parts.Matches p good typed contracts number f fis n0 h0 args good0 fit e spotted

    abbrev All : Unit {0} → List Formula → Type 0
    All = AllHold (Unit {0}) Knows

    action_sorted : (hid : ℕ → Bool) (c : Action) (st : State) → ActionFits p number f TA TS TW hid c → AllSorted f.variables.items st.locals → AllSorted f.variables.items (run_action p a f c st).gives.locals
    action_sorted hid c st fits s = run_action_sorted p f number a c st fits.0.typed s

    loop_sorted : (hid : ℕ → Bool) (invs : List Spec) (m : _) (row : Row_of-Stmt m) (st : State) → LoopFits p number f TA TS TW hid invs m row → AllSorted f.variables.items st.locals → AllSorted f.variables.items (turns p f a invs row st).gives.locals
    loop_sorted hid invs m row st fits s = turns_sorted p f a invs m row st s

    other_sorted : (hid : ℕ → Bool) (s : Stmt) (st : State) → FitsOther p number f hid s → AllSorted f.variables.items st.locals → AllSorted f.variables.items (stmt p f a s st).gives.locals
    other_sorted hid (Call line to c q es) st fits s = call_sorted p f a number line to c q es st fits.typed s
    other_sorted hid (Do line c) st fits s = absurd fits
    other_sorted hid (If' line in_ghost e m ra n rb) st fits s = absurd fits
    other_sorted hid (While' line invs e m row) st fits s = absurd fits
    other_sorted hid (DoWhile' line invs m row tested e) st fits s = absurd fits
    other_sorted hid (Unwrapping' line ty q e m row) st fits s = absurd fits
    other_sorted hid (Return line e) st fits s = absurd fits

    moved_sorted : (b q : Bool) (st : State) → AllSorted f.variables.items st.locals → AllSorted f.variables.items (interference b q st).gives.locals
    moved_sorted true true st s = s
    moved_sorted true false st s = s
    moved_sorted false q st s = s

    -- Actions, loops and calls, as the induction takes them.

    act_back : (hid : ℕ → Bool) (line n : ℕ) (c : Action) (st : State) (h : Heap) (v : List Value) (u : Unit {0}) → ActionFits p number f TA TS TW hid c → AllSorted f.variables.items st.locals → Matches hid u st h v → All u (facts (run_action p a f c st).path)
        → (h' : Heap) × (v' : List Value) × (choices : List Value) × (news : List Ref) × ActsTo p x f (act.act p x choices (Chosen news) line c n h v) h' v' × Matches (after_stmt (Do line c) hid) u (run_action p a f c st).gives h' v'
    act_back hid line n c st h v u fits sorted m all = acts.act_back p good typed contracts number f fis n0 h0 args good0 fit e spotted hid line n c st h v fits sorted m all

    act_fails : (hid : ℕ → Bool) (line n : ℕ) (c : Action) (st : State) (h : Heap) (v : List Value) (u : Unit {0}) → ActionFits p number f TA TS TW hid c → AllSorted f.variables.items st.locals → Matches hid u st h v → FailsIn (Unit {0}) Knows label n (run_action p a f c st).path u
        → (choices : List Value) × (news : List Ref) × FailsAt label (act.act p x choices (Chosen news) line c n h v)
    act_fails hid line n c st h v u fits sorted m y = acts.act_fails p good typed contracts number f fis n0 h0 args good0 fit e spotted hid line n label c st h v fits sorted m y

    turns_back : (hid : ℕ → Bool) (invs : List Spec) (m : _) (row : Row_of-Stmt m) (st : State) (h : Heap) (v : List Value) (u : Unit {0}) → LoopFits p number f TA TS TW hid invs m row → AllSorted f.variables.items st.locals → Matches hid u st h v → All u (facts (turns p f a invs row st).path) → (k : Heap) × (w : List Value) × Turns p x f invs (row_sets row) h k v w × Matches hid u (turns p f a invs row st).gives k w
    turns_back hid invs m row st h v u fits sorted there all = loops.turns_back p good typed contracts number f fis n0 h0 args good0 fit e spotted hid invs m row st h v fits (row_declared p f number row fits.0.typed) sorted there all

    turns_fail : (hid : ℕ → Bool) (line n : ℕ) (invs : List Spec) (m : _) (row : Row_of-Stmt m) (st : State) (h : Heap) (v : List Value) (u : Unit {0}) → LoopFits p number f TA TS TW hid invs m row → AllSorted f.variables.items st.locals → Matches hid u st h v → FailsIn (Unit {0}) Knows label n (turns p f a invs row st).path u → FailsAt label (invariants_at p x f line invs h v n)
    turns_fail hid line n invs m row st h v u fits sorted there y = parts.turns_fail p good typed contracts number f fis n0 h0 args good0 fit e spotted label hid line n invs m row st h v u fits sorted there y

    invariants_fail : (hid : ℕ → Bool) (line n : ℕ) (invs : List Spec) (st : State) (h : Heap) (v : List Value) (u : Unit {0}) → SpecsFit p number f TA TS TW hid invs → AllSorted f.variables.items st.locals → Matches hid u st h v → FailsIn (Unit {0}) Knows label n (check_invariants p f a invs st).path u → FailsAt label (invariants_at p x f line invs h v n)
    invariants_fail hid line n invs st h v u fits sorted there y = parts.invariants_fail p good typed contracts number f fis n0 h0 args good0 fit e spotted label hid line n invs st h v u fits sorted there y

    other_back : (hid : ℕ → Bool) (s : Stmt) (n : ℕ) (st : State) (h : Heap) (v : List Value) (u : Unit {0}) → FitsOther p number f hid s → AllSorted f.variables.items st.locals → Matches hid u st h v → All u (facts (stmt p f a s st).path) → (h' : Heap) × (v' : List Value) × ReachesBy p x f (Lazily p x.me) s n h v h' v' × Matches (after_stmt s hid) u (stmt p f a s st).gives h' v'
    other_back hid (Call line to c q es) n st h v u fits sorted m all = call_runs.call_back p good typed contracts number f fis n0 h0 args good0 fit e spotted hid line to c q es n st h v fits m all
    other_back hid (Do line c) n st h v u fits sorted m all = absurd fits
    other_back hid (If' line in_ghost e m' ra k rb) n st h v u fits sorted m all = absurd fits
    other_back hid (While' line invs e m' row) n st h v u fits sorted m all = absurd fits
    other_back hid (DoWhile' line invs m' row tested e) n st h v u fits sorted m all = absurd fits
    other_back hid (Unwrapping' line ty q e m' row) n st h v u fits sorted m all = absurd fits
    other_back hid (Return line e) n st h v u fits sorted m all = absurd fits

    other_fails : (hid : ℕ → Bool) (s : Stmt) (n : ℕ) (st : State) (h : Heap) (v : List Value) (u : Unit {0}) → FitsOther p number f hid s → AllSorted f.variables.items st.locals → Matches hid u st h v → FailsIn (Unit {0}) Knows label n (stmt p f a s st).path u → FailsBy p x f (Lazily p x.me) label s n h v
    other_fails hid (Call line to c q es) n st h v u fits sorted m y = call_runs.call_fails p good typed contracts number f fis n0 h0 args good0 fit e spotted hid line to c q es n st h v fits m label y
    other_fails hid (Do line c) n st h v u fits sorted m y = absurd fits
    other_fails hid (If' line in_ghost e m' ra k rb) n st h v u fits sorted m y = absurd fits
    other_fails hid (While' line invs e m' row) n st h v u fits sorted m y = absurd fits
    other_fails hid (DoWhile' line invs m' row tested e) n st h v u fits sorted m y = absurd fits
    other_fails hid (Unwrapping' line ty q e m' row) n st h v u fits sorted m y = absurd fits
    other_fails hid (Return line e) n st h v u fits sorted m y = absurd fits

    goes_stmt : (s : Stmt) (hid : ℕ → Bool) (n : ℕ) (st : State) (h : Heap) (v : List Value) (u : Unit {0}) → FitsStmt p number f TA TS TW a hid s → AllSorted f.variables.items st.locals → Matches hid u st h v → All u (facts (stmt p f a s st).path)
        → (h' : Heap) × (v' : List Value) × ReachesBy p x f (Lazily p x.me) s n h v h' v' × Matches (after_stmt s hid) u (stmt p f a s st).gives h' v'
    goes_stmt =
        runs.goes_stmt (Unit {0}) Knows (λ u. Is l T e) (λ u. Has l T e) (λ u y h. ShownHeap l e.env y h) (λ u. has_says l T e)
        (λ u n y z. has_equal l T e (integer n) y (Int z)) (λ u n y r. has_equal l T e (reference n) y (Refers r)) (λ u n y h. heap_equal l T e (heap n) y h)
        (λ u. known_parts l T e) (λ u. known_or l T e) (λ u. known_other l T e) (λ u. known_never l T e) (λ u. known_not l T e)
        (Steady p f) size p x f a label (FitsExpr p number f) (ActionFits p number f TA TS TW) (FitsOther p number f) (LoopFits p number f TA TS TW) (SpecsFit p number f TA TS TW) (FitsReturn p number f) (ObjectFits p number f TA TS TW) (AllSorted f.variables.items)
        (λ u. good_of l T e) (λ u. rely_of l T e) (moved_steady p f T) (λ u. heap_of l T e)
        (parts.code_back p good typed contracts number f fis n0 h0 args good0 fit e spotted) (parts.code_fails p good typed contracts number f fis n0 h0 args good0 fit e spotted label) (λ c st. code_size p a st c) act_back act_fails turns_back turns_fail (turns_size p f a) invariants_fail
        (parts.returns_fail p good typed contracts number f fis n0 h0 args good0 fit e spotted label) (stmt_size p f a refl) (λ m row st. row_size p f a refl row st) other_back other_fails action_sorted loop_sorted (meet_sorted f.variables.items) other_sorted
        (parts.object_back p good typed contracts number f fis n0 h0 args good0 fit e spotted) (parts.unwrap_back p good typed contracts number f fis n0 h0 args good0 fit e spotted) (parts.unwrap_fails p good typed contracts number f fis n0 h0 args good0 fit e spotted label) (parts.wrap_back p good typed contracts number f fis n0 h0 args good0 fit e spotted) (parts.wrap_fails p good typed contracts number f fis n0 h0 args good0 fit e spotted label)

    fails_stmt : (s : Stmt) (hid : ℕ → Bool) (n : ℕ) (st : State) (h : Heap) (v : List Value) (u : Unit {0}) → FitsStmt p number f TA TS TW a hid s → AllSorted f.variables.items st.locals → Matches hid u st h v → FailsIn (Unit {0}) Knows label n (stmt p f a s st).path u → FailsBy p x f (Lazily p x.me) label s n h v
    fails_stmt =
        runs.fails_stmt (Unit {0}) Knows (λ u. Is l T e) (λ u. Has l T e) (λ u y h. ShownHeap l e.env y h) (λ u. has_says l T e)
        (λ u n y z. has_equal l T e (integer n) y (Int z)) (λ u n y r. has_equal l T e (reference n) y (Refers r)) (λ u n y h. heap_equal l T e (heap n) y h)
        (λ u. known_parts l T e) (λ u. known_or l T e) (λ u. known_other l T e) (λ u. known_never l T e) (λ u. known_not l T e)
        (Steady p f) size p x f a label (FitsExpr p number f) (ActionFits p number f TA TS TW) (FitsOther p number f) (LoopFits p number f TA TS TW) (SpecsFit p number f TA TS TW) (FitsReturn p number f) (ObjectFits p number f TA TS TW) (AllSorted f.variables.items)
        (λ u. good_of l T e) (λ u. rely_of l T e) (moved_steady p f T) (λ u. heap_of l T e)
        (parts.code_back p good typed contracts number f fis n0 h0 args good0 fit e spotted) (parts.code_fails p good typed contracts number f fis n0 h0 args good0 fit e spotted label) (λ c st. code_size p a st c) act_back act_fails turns_back turns_fail (turns_size p f a) invariants_fail
        (parts.returns_fail p good typed contracts number f fis n0 h0 args good0 fit e spotted label) (stmt_size p f a refl) (λ m row st. row_size p f a refl row st) other_back other_fails action_sorted loop_sorted (meet_sorted f.variables.items) other_sorted
        (parts.object_back p good typed contracts number f fis n0 h0 args good0 fit e spotted) (parts.unwrap_back p good typed contracts number f fis n0 h0 args good0 fit e spotted) (parts.unwrap_fails p good typed contracts number f fis n0 h0 args good0 fit e spotted label) (parts.wrap_back p good typed contracts number f fis n0 h0 args good0 fit e spotted) (parts.wrap_fails p good typed contracts number f fis n0 h0 args good0 fit e spotted label)

    stmt_sorted : (s : Stmt) (hid : ℕ → Bool) (st : State) → FitsStmt p number f TA TS TW a hid s → AllSorted f.variables.items st.locals → AllSorted f.variables.items (stmt p f a s st).gives.locals
    stmt_sorted = joins.sorted_stmt p f a (FitsExpr p number f) (ActionFits p number f TA TS TW) (FitsOther p number f) (LoopFits p number f TA TS TW) (SpecsFit p number f TA TS TW) (FitsReturn p number f) (ObjectFits p number f TA TS TW) (AllSorted f.variables.items) action_sorted loop_sorted (meet_sorted f.variables.items) other_sorted

    -- before the end of the body others may go on, where it reads the heap
    end_moved : (b : Bool) (hid : ℕ → Bool) (n : ℕ) (st : State) (h : Heap) (v : List Value) (g : State → Execution State) → Matches hid tt st h v → FailsIn (Unit {0}) Knows label n (after (interference b false st) g).path tt
        → (k : Heap) × Lazily p x.me b false h k × Matches hid tt (interference b false st).gives k v × FailsIn (Unit {0}) Knows label n (g (interference b false st).gives).path tt
    end_moved true hid n st h v g m y = let z = call_runs.moved p good typed contracts number f fis n0 h0 args good0 fit e spotted hid st h v m y.0 in (z.after_heap, z.moves, z.matches, y.1)
    end_moved false hid n st h v g m y = (h, refl, m, y)

    end_fails : (ty : Option DeclaredType) → f.result ≡ ty → (hid : ℕ → Bool) (n : ℕ) (st : State) (h : Heap) (v : List Value) → (f.result ≡ None → FitsReturn p number f hid None) → AllSorted f.variables.items st.locals → Matches hid tt st h v → FailsIn (Unit {0}) Knows label n (body_end p f a ty st).path tt → FailsBodyBy p x f (Lazily p x.me) label [] n h v
    end_fails (Some ty) is hid n st h v fits sorted m y = absurd y
    end_fails None is hid n st h v fits sorted m y =
        let b = clauses_read f.ensures_.items in
        let k = end_moved b hid n st h v (λ st1. return_checks p f a None st1) m y in
        (k.0, k.1, parts.leaves_fail p good typed contracts number f fis n0 h0 args good0 fit e spotted label hid f.end n None (interference b false st).gives k.0 v tt (fits is) (moved_sorted b false st sorted) k.2 k.3)

    -- where a check of the body isn't known true, a lazy run fails it
    pub fails_body : (ss : List Stmt) (hid : ℕ → Bool) (n : ℕ) (st : State) (h : Heap) (v : List Value) → FitsBody p number f TA TS TW a hid ss → AllSorted f.variables.items st.locals → Matches hid tt st h v → FailsIn (Unit {0}) Knows label n (body p f a ss st).path tt → FailsBodyBy p x f (Lazily p x.me) label ss n h v
    fails_body [] hid n st h v fits sorted m y = end_fails f.result refl hid n st h v fits sorted m y
    fails_body (s ∷ ss) hid n st h v fits sorted m y =
        let st1 = (stmt p f a s st).gives in
        ⊎_elim (λ z. inl (fails_stmt s hid n st h v tt fits.0 sorted m z))
        (λ z.
        let r = goes_stmt s hid n st h v tt fits.0 sorted m z.0 in
        inr (r.0, r.1, r.2, fails_body ss (after_stmt s hid) (n + stmt_checks p f s) st1 r.0 r.1 fits.1 (stmt_sorted s hid st fits.0 sorted) r.3 (subst (λ (k : ℕ). FailsIn (Unit {0}) Knows label k (body p f a ss st1).path tt) (ap (λ i. n + i) (stmt_size p f a refl s st)) z.1)))
        (fails_joined (Unit {0}) Knows label n (stmt p f a s st).path (body p f a ss st1).path tt y)
