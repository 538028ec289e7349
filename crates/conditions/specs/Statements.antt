-- The statements of a function as one path. From VCC: a function's text is walked once; a call stands for its contract, a loop for its invariants, and what other threads may do for a rely condition. It goes as local runs go (LocalRuns of method), statement by statement.
use Rattle.std.specs.Prelude.{ℕ, ◌+◌, Bool, true, false, not, ◌&&◌, ◌||◌, List, [], ◌∷◌, ◌++◌, map, take, drop, Option, Some, None, slice_get}
use Rattle.int_ranges.specs.declared.ctype.CType.{CType}
use Rattle.method.specs.declared.program.DeclaredType.{DeclaredType}
use Rattle.method.specs.declared.program.DeclaredType.TheVariants.{Integer, Pointer, Object, Claim}
use Rattle.method.specs.declared.program.Expr.{Expr}
use Rattle.method.specs.declared.program.Spec.{Spec}
use Rattle.method.specs.declared.program.Action.{Action}
use Rattle.method.specs.declared.program.Action.TheVariants.{Simply, Declare, Define, WrapObject, UnwrapObject, AssertSpec, FreeObject, SpawnThread, Atomic}
use Rattle.method.specs.declared.program.Receiver.{Receiver}
use Rattle.method.specs.declared.program.Receiver.TheVariants.{Nobody, NewVariable, Place as Left}
use Rattle.method.specs.declared.program.Stmt.{Stmt, Row_of-Stmt, end_of-Stmt, more_of-Stmt}
use Rattle.method.specs.declared.program.Stmt.TheVariants.{Do, If', While', DoWhile', Unwrapping', Call, Return}
use Rattle.method.specs.declared.program.VariableInfo.{VariableInfo}
use Rattle.method.specs.declared.program.FunctionInfo.{FunctionInfo}
use Rattle.method.specs.declared.program.Program.{Program}
use Rattle.method.specs.Tables.{type_of_variable}
use Rattle.method.specs.Text.{reads, option_reads, specs_read, clauses_read, action_reads, is_quiet, row_sets}
use Rattle.terms.specs.declared.term.Kind.TheVariants as k
use Rattle.terms.specs.Formula.{Formula}
use Rattle.conditions.specs.Formulas.{node, nat, null, me, false_formula, not'}
use Rattle.conditions.specs.Symbolic.{Symbolic, Number, Reference, term, test, ranges}
use Rattle.conditions.specs.Annotations.{formula}
use Rattle.conditions.specs.Paths.{Fact, Execution, Gives, after, check_each, fact, all_facts, branch}
use Rattle.conditions.specs.Code.{Spot, State, ValueAndState, new_of, new_value, new_heap, code, all_symbolic, writable, scene, call_scene, return_scene}
use Rattle.conditions.specs.Admissible.{put_local}
use Rattle.conditions.specs.Actions.{Place, InLocal, ValuesAndState, is_of, left_side, convert_to, store, items_of, clauses, run_action, wrap_object, unwrap_object, with_counters, conditional}

-- What the text of a statement says by itself.

-- the variables that an action declares
abbrev pub action_declares : Action → List ℕ
action_declares (Simply s) = []
action_declares (Declare i) = i ∷ []
action_declares (Define i r) = i ∷ []
action_declares (WrapObject ty q e) = []
action_declares (UnwrapObject e) = []
action_declares (AssertSpec e) = []
action_declares (FreeObject e) = []
action_declares (SpawnThread g es) = []
action_declares (Atomic ls body) = []

-- the variable that a call's value declares
abbrev pub receiver_declares : Receiver → List ℕ
receiver_declares Nobody = []
receiver_declares (NewVariable i) = i ∷ []
receiver_declares (Left t) = []

-- the variables that it declares
abbrev mutual
  pub declares : Stmt → List ℕ
  declares (Do line a) = action_declares a
  declares (If' line in_ghost e m a n b) = row_declares a ++ row_declares b
  declares (While' line invs e m row) = row_declares row
  declares (DoWhile' line invs m row tested e) = row_declares row
  declares (Unwrapping' line ty q e m row) = row_declares row
  declares (Call line to c g es) = receiver_declares to
  declares (Return line e) = []

  pub row_declares : {m : _} → Row_of-Stmt m → List ℕ
  row_declares end_of-Stmt = []
  row_declares (more_of-Stmt s row) = declares s ++ row_declares row

-- it ends in a return, whatever way it goes; of a loop that may be left before its body that isn't said
abbrev mutual
  pub returns : Stmt → Bool
  returns (Do line a) = false
  returns (If' line in_ghost e m a n b) = row_returns a && row_returns b
  returns (While' line invs e m row) = false
  returns (DoWhile' line invs m row tested e) = row_returns row
  returns (Unwrapping' line ty q e m row) = row_returns row
  returns (Call line to c g es) = false
  returns (Return line e) = true

  pub row_returns : {m : _} → Row_of-Stmt m → Bool
  row_returns end_of-Stmt = false
  row_returns (more_of-Stmt s row) = returns s || row_returns row

-- before an item that reads or changes the heap, other threads may go on; of a quiet one the heap is good, and stays
abbrev pub interference : Bool → Bool → State → Execution State
interference true true st = fact (node k.Good (st.heap ∷ [])) (Gives st)
interference true false st = let st1 = new_heap st in fact (node k.Rely (me ∷ st.heap ∷ st1.heap ∷ [])) (Gives st1)
interference false quiet st = Gives st

-- the heap becomes any that all threads together may leave, where this one writes only w and what it didn't own in e
abbrev pub frame_step : Formula → List Formula → State → Execution State
frame_step e w st = let st1 = new_heap st in fact (node k.Frame (me ∷ st.heap ∷ st1.heap ∷ e ∷ w)) (Gives st1)

-- one variable, if it is set
abbrev pub havoc_one : Bool → FunctionInfo → ℕ → State → Execution State
havoc_one true f i st = after (new_value (type_of_variable f i) st) (λ v. Gives (put_local i v))
havoc_one false f i st = Gives st

-- the variables from number i on that are set have any values in range
abbrev pub havoc : FunctionInfo → (ℕ → Bool) → ℕ → List VariableInfo → State → Execution State
havoc f is_set i [] st = Gives st
havoc f is_set i (v ∷ vs) st = after (havoc_one (is_set i) f i st) (λ st1. havoc f is_set (i + 1) vs st1)

module _ (p : Program) (f : FunctionInfo) (a : Spot) where
  -- an expression at this place
  abbrev pub code_at : Expr → State → Execution Symbolic
  code_at e st = code p a st e

  -- checks of invariants, and the invariants as facts
  abbrev pub invariant_formulas : List Spec → State → List Formula
  invariant_formulas invs st = map (λ e. formula p e (scene a st)) invs

  -- the loop's invariants are checked
  abbrev pub check_invariants : List Spec → State → Execution State
  check_invariants invs st = check_each (invariant_formulas invs st) (Gives st)

  -- the loop's invariants are known
  abbrev pub assume_invariants : List Spec → State → Execution State
  assume_invariants invs st = all_facts (invariant_formulas invs st) (Gives st)

  -- the variables that a loop's body sets and doesn't declare
  abbrev pub is_set_by : {m : _} → Row_of-Stmt m → ℕ → Bool
  is_set_by row i = is_of (row_sets row) i && not (is_of (row_declares row) i)

  -- the loop's first checks, and then any turn of it
  abbrev pub turns : {m : _} → List Spec → Row_of-Stmt m → State → Execution State
  turns invs row st =
      after (check_invariants invs st) (λ st1.
      after (havoc f (is_set_by row) 0 f.variables.items st1) (λ st2.
      after (frame_step a.entry a.writes st2) (λ st3.
      assume_invariants invs st3
      )
      )
      )

  -- behind a test of a loop: what is done where it is true is a branch, and after it the test is false
  abbrev pub loop_exit : State → Formula → Execution State → Execution State
  loop_exit st b t = branch (Fact b t.path) (fact (not' b) (Gives (with_counters st t.gives)))

  -- a call's value
  abbrev pub any_result : Option DeclaredType → State → Execution ValueAndState
  any_result None st = Gives (record { value = Number (nat 0); state = st })
  any_result (Some ty) st = new_value ty st

  -- where a call's value goes
  abbrev pub receiving_place : Receiver → State → Execution (Option Place)
  receiving_place Nobody st = Gives None
  receiving_place (NewVariable i) st = Gives (Some (InLocal i))
  receiving_place (Left t) st = after (left_side p a t st) (λ place. Gives (Some place))

  -- a call's value is converted and stored
  abbrev pub receive : Option Place → Option CType → ValueAndState → Execution State
  receive None c v = after (convert_to p a c v.value) (λ w. Gives v.state)
  receive (Some place) c v = after (convert_to p a c v.value) (λ w. store p a place w v.state)

  -- what a callee may do within its contract; h is the heap at the call
  abbrev pub call_effect : FunctionInfo → Formula → List Formula → List Symbolic → Option Place → Option CType → State → Execution State
  call_effect g h w args place c st =
      after (frame_step h w st) (λ st1.
      after (any_result g.result st1) (λ v.
      all_facts (clauses p a g.ensures_.items (return_scene h args v.state.heap v.value)) (
      receive place c v
      )
      )
      )

  -- a call by its contract: the requires clauses, the items that the callee writes, and what it may do
  abbrev pub call_function : FunctionInfo → List Formula → List Symbolic → Option Place → Option CType → State → Execution State
  call_function g w args place c st =
      check_each (clauses p a g.requires_.items (call_scene me st.heap args)) (
      check_each (map (λ o. writable p a o) w) (
      call_effect g st.heap w args place c st
      )
      )

  -- a call of a function of the table
  abbrev pub call : Option FunctionInfo → List Symbolic → Option Place → Option CType → State → Execution State
  call None args place c st = receive place c (record { value = Number (nat 0); state = st })
  call (Some g) args place c st = call_function g (items_of p a g.writes.items (call_scene me st.heap args)) args place c st

  -- the value that is returned
  abbrev pub value_of : Option Expr → State → Execution Symbolic
  value_of None st = Gives (Number (nat 0))
  value_of (Some e) st = code p a st e

  -- the checks of a return, or of the body's end
  abbrev pub return_checks : Option Expr → State → Execution State
  return_checks e st = after (value_of e st) (λ v. check_each (clauses p a f.ensures_.items (return_scene a.entry a.args st.heap v)) (Gives st))

  abbrev mutual
    pub stmt : Stmt → State → Execution State
    stmt (Do line x) st = after (interference (action_reads x) (is_quiet f x) st) (λ st1. run_action p a f x st1)
    stmt (If' line in_ghost e m x n y) st =
        after (interference (reads e) (not in_ghost) st) (λ st1.
        after (code_at e st1) (λ v. conditional (row_declares x ++ row_declares y) st1 (test v) (row_returns x) (row_returns y) (λ st2. stmts x st2) (λ st2. stmts y st2))
        )
    stmt (While' line invs e m row) st =
        after (interference (specs_read invs.items || reads e) false st) (λ st1.
        after (turns invs.items row st1) (λ st2.
        after (code_at e st2) (λ v.
        loop_exit st2 (test v) (after (stmts row st2) (λ st3. after (interference (specs_read invs.items) false st3) (λ st4. check_invariants invs.items st4)))
        )
        )
        )
    stmt (DoWhile' line invs m row tested e) st =
        after (interference (specs_read invs.items) false st) (λ st1.
        after (turns invs.items row st1) (λ st2.
        after (stmts row st2) (λ st3.
        after (interference (reads e) false st3) (λ st4.
        after (code_at e st4) (λ v. loop_exit st4 (test v) (after (interference (specs_read invs.items) false st4) (λ st5. check_invariants invs.items st5)))
        )
        )
        )
        )
    stmt (Unwrapping' line ty q e m row) st =
        after (interference true false st) (λ st1.
        after (code_at e st1) (λ o.
        after (unwrap_object p a (term o) st1) (λ st2.
        after (stmts row st2) (λ st3.
        after (interference true false st3) (λ st4.
        wrap_object p a ty q (term o) st4
        )
        )
        )
        )
        )
    stmt (Call line to c g es) st =
        after (interference true false st) (λ st1.
        after (receiving_place to st1) (λ place.
        after (all_symbolic p a st1 es.items) (λ args.
        call (slice_get p.functions.items g) args place c st1
        )
        )
        )
    stmt (Return line e) st = after (interference (option_reads e || clauses_read f.ensures_.items) false st) (λ st1. after (return_checks e st1) (λ st2. fact false_formula (Gives st2)))

    pub stmts : {m : _} → Row_of-Stmt m → State → Execution State
    stmts end_of-Stmt st = Gives st
    stmts (more_of-Stmt s row) st = after (stmt s st) (λ st1. stmts row st1)

  -- the same of a function's body, behind which its end makes the checks of a return
  abbrev pub body_end : Option DeclaredType → State → Execution State
  body_end None st = after (interference (clauses_read f.ensures_.items) false st) (λ st1. return_checks None st1)
  body_end (Some ty) st = Gives st

  -- the statements of a body, and its end
  abbrev pub body : List Stmt → State → Execution State
  body [] st = body_end f.result st
  body (s ∷ ss) st = after (stmt s st) (λ st1. body ss st1)

-- At entry: the heap is good, each parameter is in its range, and the requires clauses hold.

-- the zero of a type
abbrev pub zero_like : DeclaredType → Symbolic
zero_like (Integer c) = Number (nat 0)
zero_like (Pointer n) = Reference null
zero_like Object = Reference null
zero_like Claim = Reference null

-- what variables are before they are declared
abbrev pub zeros : List VariableInfo → List Symbolic
zeros = map (λ v. zero_like v.ty)

-- one value more in front
abbrev pub with_value : Symbolic → ValuesAndState → ValuesAndState
with_value w r = record { values = w ∷ r.values; state = r.state }

-- a constant for each variable
abbrev pub new_values : List VariableInfo → State → ValuesAndState
new_values [] st = record { values = []; state = st }
new_values (v ∷ vs) st = let w = new_of v.ty st in with_value w.value (new_values vs w.state)

-- each value is one of its variable's type
abbrev pub parameter_ranges : List VariableInfo → List Symbolic → List Formula
parameter_ranges [] ws = []
parameter_ranges (v ∷ vs) [] = []
parameter_ranges (v ∷ vs) (w ∷ ws) = ranges v.ty (term w) ++ parameter_ranges vs ws

-- before anything is made
abbrev pub empty_state : State
empty_state = record { heap = null; locals = []; integers = 0; references = 0; heaps = 0; changed = []; made = [] }

module _ (p : Program) (f : FunctionInfo) where
  -- a place outside atomic blocks, before the writes list is known
  abbrev pub outside_spot : Formula → List Symbolic → Spot
  outside_spot h args = record { entry = h; writes = []; args = args; inside = false; listed = [] }

  -- what is known at entry
  abbrev pub entry_facts : Spot → State → List Formula
  entry_facts a st =
      node k.Good (st.heap ∷ []) ∷ parameter_ranges (take f.parameters f.variables.items) a.args ++ clauses p a f.requires_.items (call_scene me st.heap a.args)

  -- the body behind its entry
  abbrev pub enter : Spot → State → Execution State
  enter a st = all_facts (entry_facts a st) (body p f (record a { writes = items_of p a f.writes.items (call_scene me st.heap a.args) }) f.body.items st)

  -- the body with these arguments, other variables being zeros
  abbrev pub with_arguments : State → ValuesAndState → Execution State
  with_arguments st w = enter (outside_spot st.heap w.values) (record w.state { locals = w.values ++ zeros (drop f.parameters f.variables.items) })

  -- the whole of a function
  abbrev pub run : Execution State
  run = let st = new_heap empty_state in with_arguments st (new_values (take f.parameters f.variables.items) st)
