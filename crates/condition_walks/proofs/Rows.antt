-- The same of statements: each makes constants, and sets the variables that its text sets.
use Rattle.std.proofs.Common.{◌≡◌, ℕ, ◌+◌, ◌==◌, Bool, true, false, not, ◌&&◌, ◌||◌, List, [], ◌∷◌, ◌++◌, slice_get, Option, Some, None, refl, sym, ◌∙◌, subst, ap, true≢false}
use Rattle.std.proofs.Common.{eqb-true}
use Rattle.int_ranges.specs.declared.ctype.CType.{CType}
use Rattle.method.specs.declared.program.DeclaredType.{DeclaredType}
use Rattle.method.specs.declared.program.Target.TheVariants.{Local, FieldOf}
use Rattle.method.specs.declared.program.Expr.{Expr}
use Rattle.method.specs.declared.program.Spec.{Spec}
use Rattle.method.specs.declared.program.Receiver.{Receiver}
use Rattle.method.specs.declared.program.Receiver.TheVariants.{Nobody, NewVariable, Place as Left}
use Rattle.method.specs.declared.program.Stmt.{Stmt, Row_of-Stmt, end_of-Stmt, more_of-Stmt}
use Rattle.method.specs.declared.program.Stmt.TheVariants.{Do, If', While', DoWhile', Unwrapping', Call, Return}
use Rattle.method.specs.declared.program.VariableInfo.{VariableInfo}
use Rattle.method.specs.declared.program.FunctionInfo.{FunctionInfo}
use Rattle.method.specs.declared.program.Program.{Program}
use Rattle.method.specs.Tables.{type_of_variable}
use Rattle.method.specs.Text.{reads, option_reads, specs_read, clauses_read, action_reads, receiver_sets, sets, row_sets, is_quiet}
use Rattle.terms.specs.Formula.{Formula}
use Rattle.conditions.specs.Formulas.{me}
use Rattle.conditions.specs.Symbolic.{Symbolic, term, test}
use Rattle.conditions.specs.Paths.{Execution, after}
use Rattle.conditions.specs.Code.{Spot, State, ValueAndState, new_value, code, all_symbolic, call_scene}
use Rattle.conditions.specs.Admissible.{put_local}
use Rattle.conditions.specs.Actions.{Place, is_of, without_deferred, with_counters, items_of, run_action, unwrap_object}
use Rattle.conditions.specs.Statements.{interference, frame_step, havoc_one, havoc, check_invariants, assume_invariants, is_set_by, turns, loop_exit, any_result, receiving_place, receive, call_effect, call, return_checks, stmt, stmts, body_end, body, row_declares, row_returns}
use Rattle.conditions.proofs.FromRuns.{count_of, IsWithin, within_self, within_then}
use Rattle.condition_walks.proofs.Kept.{Out, Part, out_first, out_second, none_out, part_self, kept_self, Goes, goes_self, goes_then, goes_more, goes_on, goes_still, gives_facts, goes_meet}
use Rattle.condition_walks.proofs.Grows.{place_sets, new_heap_goes, new_value_goes, put_local_goes, store_goes, unwrap_object_goes, wrap_object_goes, run_action_goes}
use Rattle.conditions.proofs.Joins.{check_gives}

pub moved_goes : (b q : Bool) (st : State) → Goes [] st (interference b q st).gives
moved_goes true true st = goes_self [] st
moved_goes true false st = new_heap_goes st
moved_goes false q st = goes_self [] st

pub framed_goes : (e : Formula) (w : List Formula) (st : State) → Goes [] st (frame_step e w st).gives
framed_goes e w st = new_heap_goes st

one_part : (set : List ℕ) (is_set : ℕ → Bool) → ((j : ℕ) → Out set j → is_set j ≡ false) → (i : ℕ) → is_set i ≡ true → Part (i ∷ []) set
one_part set is_set outside i is j o = by_place (i == j) refl
  where
    by_place : (b : Bool) → b ≡ (i == j) → b || false ≡ false
    by_place false e = refl
    by_place true e = absurd (true≢false (sym is ∙ ap is_set (eqb-true i j (sym e)) ∙ outside j o))

havoc_one_goes : (f : FunctionInfo) (set : List ℕ) (b : Bool) (i : ℕ) → (b ≡ true → Part (i ∷ []) set) → (st : State) → Goes set st (havoc_one b f i st).gives
havoc_one_goes f set false i part st = goes_self set st
havoc_one_goes f set true i part st =
    let v = (new_value (type_of_variable f i) st).gives in
    goes_then [] (i ∷ []) set (none_out set) (part refl) st v.state (put_local i v) (new_value_goes (type_of_variable f i) st) (put_local_goes i v)

pub havoc_goes : (f : FunctionInfo) (set : List ℕ) (is_set : ℕ → Bool) → ((j : ℕ) → Out set j → is_set j ≡ false) → (i : ℕ) (vs : List VariableInfo) (st : State) → Goes set st (havoc f is_set i vs st).gives
havoc_goes f set is_set outside i [] st = goes_self set st
havoc_goes f set is_set outside i (v ∷ vs) st =
    let t = (havoc_one (is_set i) f i st).gives in
    goes_then set set set (part_self set) (part_self set) st t (havoc f is_set (i + 1) vs t).gives (havoc_one_goes f set (is_set i) i (λ e. one_part set is_set outside i e) st) (havoc_goes f set is_set outside (i + 1) vs t)

module _ (p : Program) (f : FunctionInfo) (a : Spot) where
  pub invariants_goes : (invs : List Spec) (st : State) → Goes [] st (check_invariants p f a invs st).gives
  invariants_goes invs st = simp check_gives (goes_self [] st)

  known_goes : (invs : List Spec) (st : State) → Goes [] st (assume_invariants p f a invs st).gives
  known_goes invs st = simp gives_facts (goes_self [] st)

  not_set : {m : _} (row : Row_of-Stmt m) (j : ℕ) → Out (row_sets row) j → is_set_by p f a row j ≡ false
  not_set row j o = ap (λ b. b && not (is_of (row_declares row) j)) o

  pub turns_goes : (invs : List Spec) {m : _} (row : Row_of-Stmt m) (st : State) → Goes (row_sets row) st (turns p f a invs row st).gives
  turns_goes invs row st =
      let st1 = (check_invariants p f a invs st).gives in
      let st2 = (havoc f (is_set_by p f a row) 0 f.variables.items st1).gives in
      let st3 = (frame_step a.entry a.writes st2).gives in
      let st4 = (assume_invariants p f a invs st3).gives in
      goes_on (row_sets row) st st1 st4 (invariants_goes invs st)
      (goes_still (row_sets row) st1 st2 st4 (havoc_goes f (row_sets row) (is_set_by p f a row) (λ j o. not_set row j o) 0 f.variables.items st1)
      (goes_on [] st2 st3 st4 (framed_goes a.entry a.writes st2) (known_goes invs st3)))

  pub left_goes : (st : State) (b : Formula) (t : Execution State) → IsWithin (count_of st) (count_of t.gives) → Goes [] st (loop_exit p f a st b t).gives
  left_goes st b t within = record { within = within; locals = kept_self [] 0 st.locals }

  -- the second checks of a loop
  pub tail_grows : (invs : List Spec) (st : State) → IsWithin (count_of st) (count_of (after (interference (specs_read invs) false st) (λ st4. check_invariants p f a invs st4)).gives)
  tail_grows invs st =
      let st1 = (interference (specs_read invs) false st).gives in
      (goes_on [] st st1 (check_invariants p f a invs st1).gives (moved_goes (specs_read invs) false st) (invariants_goes invs st1)).within

  any_result_goes : (ty : Option DeclaredType) (st : State) → Goes [] st (any_result p f a ty st).gives.state
  any_result_goes None st = goes_self [] st
  any_result_goes (Some ty) st = new_value_goes ty st

  -- the variable that a call's value sets, if it sets one
  abbrev pub to_sets : Option Place → List ℕ
  to_sets None = []
  to_sets (Some place) = place_sets place

  receives_goes : (place : Option Place) (c : Option CType) (v : ValueAndState) → Goes (to_sets place) v.state (receive p f a place c v).gives
  receives_goes None c v = goes_self [] v.state
  receives_goes (Some place) c v = store_goes p a place _ v.state

  answers_goes : (g : FunctionInfo) (h : Formula) (w : List Formula) (args : List Symbolic) (place : Option Place) (c : Option CType) (st : State) → Goes (to_sets place) st (call_effect p f a g h w args place c st).gives
  answers_goes g h w args place c st =
      let st1 = (frame_step h w st).gives in
      let v = (any_result p f a g.result st1).gives in
      simp gives_facts (goes_on (to_sets place) st st1 _ (framed_goes h w st) (goes_on (to_sets place) st1 v.state _ (any_result_goes g.result st1) (receives_goes place c v)))

  pub calls_goes : (g : Option FunctionInfo) (args : List Symbolic) (place : Option Place) (c : Option CType) (st : State) → Goes (to_sets place) st (call p f a g args place c st).gives
  calls_goes None args place c st = receives_goes place c _
  calls_goes (Some g) args place c st = simp check_gives (answers_goes g st.heap (items_of p a g.writes.items (call_scene me st.heap args)) args place c st)

  received_sets : (to : Receiver) (st : State) → to_sets (receiving_place p f a to st).gives ≡ receiver_sets to
  received_sets Nobody st = refl
  received_sets (NewVariable i) st = refl
  received_sets (Left (Local i)) st = refl
  received_sets (Left (FieldOf e g)) st = refl

  pub leaves_goes : (e : Option Expr) (st : State) → Goes [] st (return_checks p f a e st).gives
  leaves_goes e st = simp check_gives (goes_self [] st)

  mutual
    pub stmt_goes : (s : Stmt) (st : State) → Goes (sets s) st (stmt p f a s st).gives
    stmt_goes (Do line c) st =
        let st1 = (interference (action_reads c) (is_quiet f c) st).gives in
        goes_on (sets (Do line c)) st st1 (run_action p a f c st1).gives (moved_goes (action_reads c) (is_quiet f c) st) (run_action_goes p a f c st1)
    stmt_goes (If' line in_ghost e m ra n rb) st =
        let st1 = (interference (reads e) (not in_ghost) st).gives in
        let x = stmts p f a ra (without_deferred st1) in
        let y = stmts p f a rb (with_counters st1 x.gives) in
        let both = row_sets ra ++ row_sets rb in
        goes_on both st st1 _ (moved_goes (reads e) (not in_ghost) st)
        (goes_meet both (row_declares ra ++ row_declares rb) st1 (test (code p a st1 e).gives) (row_returns ra) (row_returns rb) x y
        (goes_more (row_sets ra) both (out_first (row_sets ra) (row_sets rb)) (without_deferred st1) x.gives (row_goes ra (without_deferred st1)))
        (goes_more (row_sets rb) both (out_second (row_sets ra) (row_sets rb)) (with_counters st1 x.gives) y.gives (row_goes rb (with_counters st1 x.gives))))
    stmt_goes (While' line invs e m row) st =
        let st1 = (interference (specs_read invs.items || reads e) false st).gives in
        let st2 = (turns p f a invs.items row st1).gives in
        let st3 = (stmts p f a row st2).gives in
        let t = after (stmts p f a row st2) (λ st3. after (interference (specs_read invs.items) false st3) (λ st4. check_invariants p f a invs.items st4)) in
        goes_on (row_sets row) st st1 _ (moved_goes (specs_read invs.items || reads e) false st)
        (goes_still (row_sets row) st1 st2 _ (turns_goes invs.items row st1)
        (left_goes st2 (test (code p a st2 e).gives) t (within_then (count_of st2) (count_of st3) (count_of t.gives) (row_goes row st2).within (tail_grows invs.items st3))))
    stmt_goes (DoWhile' line invs m row tested e) st =
        let st1 = (interference (specs_read invs.items) false st).gives in
        let st2 = (turns p f a invs.items row st1).gives in
        let st3 = (stmts p f a row st2).gives in
        let st4 = (interference (reads e) false st3).gives in
        let t = after (interference (specs_read invs.items) false st4) (λ st5. check_invariants p f a invs.items st5) in
        goes_on (row_sets row) st st1 _ (moved_goes (specs_read invs.items) false st)
        (goes_then (row_sets row) (row_sets row) (row_sets row) (part_self (row_sets row)) (part_self (row_sets row)) st1 st2 _ (turns_goes invs.items row st1)
        (goes_still (row_sets row) st2 st3 _ (row_goes row st2)
        (goes_on [] st3 st4 _ (moved_goes (reads e) false st3) (left_goes st4 (test (code p a st4 e).gives) t (tail_grows invs.items st4)))))
    stmt_goes (Unwrapping' line ty q e m row) st =
        let st1 = (interference true false st).gives in
        let o = term (code p a st1 e).gives in
        let st2 = (unwrap_object p a o st1).gives in
        let st3 = (stmts p f a row st2).gives in
        let st4 = (interference true false st3).gives in
        goes_on (row_sets row) st st1 _ (moved_goes true false st)
        (goes_on (row_sets row) st1 st2 _ (unwrap_object_goes p a o st1)
        (goes_still (row_sets row) st2 st3 _ (row_goes row st2)
        (goes_on [] st3 st4 _ (moved_goes true false st3) (wrap_object_goes p a ty q o st4))))
    stmt_goes (Call line to c g es) st =
        let st1 = (interference true false st).gives in
        let place = (receiving_place p f a to st1).gives in
        goes_on (receiver_sets to) st st1 _ (moved_goes true false st) (subst (λ s. Goes s st1 (call p f a (slice_get p.functions.items g) (all_symbolic p a st1 es.items).gives place c st1).gives) (received_sets to st1) (calls_goes (slice_get p.functions.items g) (all_symbolic p a st1 es.items).gives place c st1))
    stmt_goes (Return line e) st =
        let b = option_reads e || clauses_read f.ensures_.items in
        goes_on [] st (interference b false st).gives _ (moved_goes b false st) (leaves_goes e (interference b false st).gives)

    pub row_goes : {m : _} (row : Row_of-Stmt m) (st : State) → Goes (row_sets row) st (stmts p f a row st).gives
    row_goes end_of-Stmt st = goes_self [] st
    row_goes (more_of-Stmt s row) st =
        let t = (stmt p f a s st).gives in
        goes_then (sets s) (row_sets row) (sets s ++ row_sets row) (out_first (sets s) (row_sets row)) (out_second (sets s) (row_sets row)) st t (stmts p f a row t).gives (stmt_goes s st) (row_goes row t)

  -- Counters never fall.

  pub row_grows : (m : _) (row : Row_of-Stmt m) (st : State) → IsWithin (count_of st) (count_of (stmts p f a row st).gives)
  row_grows m row st = (row_goes row st).within

  pub turn_grows : (m : _) (row : Row_of-Stmt m) (invs : List Spec) (st : State) → IsWithin (count_of st) (count_of (after (stmts p f a row st) (λ st3. after (interference (specs_read invs) false st3) (λ st4. check_invariants p f a invs st4))).gives)
  turn_grows m row invs st =
      let st3 = (stmts p f a row st).gives in
      within_then (count_of st) (count_of st3) (count_of (after (interference (specs_read invs) false st3) (λ st4. check_invariants p f a invs st4)).gives) (row_goes row st).within (tail_grows invs st3)

  pub body_end_grows : (ty : Option DeclaredType) (st : State) → IsWithin (count_of st) (count_of (body_end p f a ty st).gives)
  body_end_grows (Some ty) st = within_self (count_of st)
  body_end_grows None st =
      let b = clauses_read f.ensures_.items in
      (goes_on [] st (interference b false st).gives (return_checks p f a None (interference b false st).gives).gives (moved_goes b false st) (leaves_goes None (interference b false st).gives)).within

  pub body_grows : (ss : List Stmt) (st : State) → IsWithin (count_of st) (count_of (body p f a ss st).gives)
  body_grows [] st = body_end_grows f.result st
  body_grows (s ∷ ss) st = let t = (stmt p f a s st).gives in within_then (count_of st) (count_of t) (count_of (body p f a ss t).gives) (stmt_goes s st).within (body_grows ss t)
