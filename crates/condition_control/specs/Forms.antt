-- Statements by lists, as the code has them, and the forms of statements over what their bodies do. Own: the definitions go by rows, the code by vectors; `Forms` of condition_walk's proofs says that they are the same.
use Rattle.std.specs.Prelude.{ℕ, Bool, false, true, not, ◌&&◌, ◌||◌, List, [], ◌∷◌, Option, slice_get}
use Rattle.int_ranges.specs.declared.ctype.CType.{CType}
use Rattle.method.specs.declared.program.Action.{Action}
use Rattle.method.specs.declared.program.Receiver.{Receiver}
use Rattle.method.specs.declared.program.Expr.{Expr}
use Rattle.method.specs.declared.program.Spec.{Spec}
use Rattle.method.specs.declared.program.Stmt.{Stmt}
use Rattle.method.specs.declared.program.FunctionInfo.{FunctionInfo}
use Rattle.method.specs.declared.program.Program.{Program}
use Rattle.method.specs.Text.{reads, option_reads, specs_read, clauses_read, action_reads, is_quiet}
use Rattle.terms.specs.Formula.{Formula}
use Rattle.conditions.specs.Formulas.{not', false_formula}
use Rattle.conditions.specs.Symbolic.{Symbolic, term, test}
use Rattle.conditions.specs.Paths.{Fact, Execution, Gives, after, fact, branch}
use Rattle.conditions.specs.Code.{Spot, State, ValueAndState, code, all_symbolic}
use Rattle.conditions.specs.Actions.{is_of, run_action, wrap_object, unwrap_object, with_counters, conditional}
use Rattle.conditions.specs.Statements.{interference, frame_step, havoc, check_invariants, assume_invariants, receiving_place, call, return_checks, stmt}

-- a variable is among the first and not among the second, as a loop's body sets and doesn't declare it
abbrev pub set_outside : List ℕ → List ℕ → ℕ → Bool
set_outside sets declares i = is_of sets i && not (is_of declares i)

-- behind a test of a loop: what is done where it is true is a branch, and after it the test is false
abbrev pub loop_left : State → Formula → Execution State → Execution State
loop_left st b t = branch (Fact b t.path) (fact (not' b) (Gives (with_counters st t.gives)))

module _ (p : Program) (f : FunctionInfo) (a : Spot) where
  -- the statements of a list, one after the other
  abbrev pub all_stmts : List Stmt → State → Execution State
  all_stmts [] st = Gives st
  all_stmts (s ∷ ss) st = after (stmt p f a s st) (λ st1. all_stmts ss st1)

  -- an expression's value, with the state that stays
  abbrev pub evaluated : Expr → State → Execution ValueAndState
  evaluated e st = after (code p a st e) (λ v. Gives (record { value = v; state = st }))

  -- a branch up to its test
  abbrev pub branch_start : Bool → Expr → State → Execution ValueAndState
  branch_start in_ghost e st = after (interference (reads e) (not in_ghost) st) (λ st1. evaluated e st1)

  -- a branch whose ways do this
  abbrev pub branching : Bool → Expr → List ℕ → Bool → Bool → (State → Execution State) → (State → Execution State) → State → Execution State
  branching in_ghost e declared returns returns' first second st =
      after (branch_start in_ghost e st) (λ v. conditional declared v.state (test v.value) returns returns' first second)

  -- a loop's first checks, and then any turn of it, where its body sets these variables
  abbrev pub any_turn : List Spec → (ℕ → Bool) → State → Execution State
  any_turn invs is_set st =
      after (check_invariants p f a invs st) (λ st1.
      after (havoc f is_set 0 f.variables.items st1) (λ st2.
      after (frame_step a.entry a.writes st2) (λ st3. assume_invariants p f a invs st3)
      )
      )

  -- a turn is over: the invariants are checked again
  abbrev pub turn_end : List Spec → State → Execution State
  turn_end invs st = after (interference (specs_read invs) false st) (λ st1. check_invariants p f a invs st1)

  -- a `while` up to its test
  abbrev pub while_start : List Spec → Expr → (ℕ → Bool) → State → Execution ValueAndState
  while_start invs e is_set st =
      after (interference (specs_read invs || reads e) false st) (λ st1.
      after (any_turn invs is_set st1) (λ st2. evaluated e st2)
      )

  -- a `while` whose body does this
  abbrev pub looping : List Spec → Expr → (ℕ → Bool) → (State → Execution State) → State → Execution State
  looping invs e is_set body st =
      after (while_start invs e is_set st) (λ v.
      loop_left v.state (test v.value) (after (body v.state) (λ st1. turn_end invs st1))
      )

  -- a `do` up to its body
  abbrev pub do_start : List Spec → (ℕ → Bool) → State → Execution State
  do_start invs is_set st = after (interference (specs_read invs) false st) (λ st1. any_turn invs is_set st1)

  -- a `do` behind its body
  abbrev pub do_end : List Spec → Expr → State → Execution State
  do_end invs e st =
      after (interference (reads e) false st) (λ st1.
      after (evaluated e st1) (λ v. loop_left v.state (test v.value) (turn_end invs v.state))
      )

  -- a `do` whose body does this
  abbrev pub do_looping : List Spec → Expr → (ℕ → Bool) → (State → Execution State) → State → Execution State
  do_looping invs e is_set body st = after (do_start invs is_set st) (λ st1. after (body st1) (λ st2. do_end invs e st2))

  -- the object of an unwrapping block, which is open then
  abbrev pub opening : Expr → State → Execution ValueAndState
  opening e st =
      after (interference true false st) (λ st1.
      after (code p a st1 e) (λ o.
      after (unwrap_object p a (term o) st1) (λ st2. Gives (record { value = o; state = st2 }))
      )
      )

  -- the block is over, and wraps the object again
  abbrev pub closing : ℕ → ℕ → Symbolic → State → Execution State
  closing ty q o st = after (interference true false st) (λ st1. wrap_object p a ty q (term o) st1)

  -- an unwrapping block whose body does this
  abbrev pub opened : ℕ → ℕ → Expr → (State → Execution State) → State → Execution State
  opened ty q e body st = after (opening e st) (λ v. after (body v.state) (λ st1. closing ty q v.value st1))

  -- a call as a statement
  abbrev pub called : Receiver → Option CType → ℕ → List Expr → State → Execution State
  called to c g es st =
      after (interference true false st) (λ st1.
      after (receiving_place p f a to st1) (λ place.
      after (all_symbolic p a st1 es) (λ args. call p f a (slice_get p.functions.items g) args place c st1)
      )
      )

  -- a return
  abbrev pub returned : Option Expr → State → Execution State
  returned e st =
      after (interference (option_reads e || clauses_read f.ensures_.items) false st) (λ st1.
      after (return_checks p f a e st1) (λ st2. fact false_formula (Gives st2))
      )

  -- an action as a statement
  abbrev pub acted : Action → State → Execution State
  acted x st = after (interference (action_reads x) (is_quiet f x) st) (λ st1. run_action p a f x st1)
