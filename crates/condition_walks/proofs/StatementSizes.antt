-- The path of a statement has as many checks as its text, and a function's has one for each of its labels.
use Rattle.std.proofs.Common.{◌≡◌, ℕ, ◌+◌, Bool, true, false, not, ◌||◌, List, [], ◌∷◌, length, slice_get, Option, Some, None, refl, ap, ap₂, ◌∙◌, arith}
use Rattle.std.proofs.lemmas.List.{length-map}
use Rattle.int_ranges.specs.declared.ctype.CType.{CType}
use Rattle.method.specs.declared.program.DeclaredType.{DeclaredType}
use Rattle.method.specs.declared.program.Expr.{Expr}
use Rattle.method.specs.declared.program.Spec.{Spec}
use Rattle.method.specs.declared.program.Receiver.{Receiver}
use Rattle.method.specs.declared.program.Receiver.TheVariants.{Nobody, NewVariable, Place as Left}
use Rattle.method.specs.declared.program.Stmt.{Stmt, Row_of-Stmt, end_of-Stmt, more_of-Stmt}
use Rattle.method.specs.declared.program.Stmt.TheVariants.{Do, If', While', DoWhile', Unwrapping', Call, Return}
use Rattle.method.specs.declared.program.VariableInfo.{VariableInfo}
use Rattle.method.specs.declared.program.FunctionInfo.{FunctionInfo}
use Rattle.method.specs.declared.program.Program.{Program}
use Rattle.method.specs.Tables.{type_of_variable}
use Rattle.method.specs.Expressions as expr
use Rattle.method.specs.Actions as action
use Rattle.method.specs.Text as text
use Rattle.method.specs.Text.{reads, option_reads, specs_read, clauses_read, action_reads, is_quiet}
use Rattle.conditions.specs.Formulas.{me}
use Rattle.conditions.specs.Symbolic.{Symbolic, term, test}
use Rattle.conditions.specs.Paths.{Execution, after, checks}
use Rattle.conditions.specs.Code.{Spot, State, ValueAndState, code, all_symbolic, call_scene}
use Rattle.conditions.specs.Actions.{Place, items_of, without_deferred, with_counters, run_action, unwrap_object, unwrap_object}
use Rattle.conditions.specs.Statements.{interference, frame_step, havoc_one, havoc, check_invariants, assume_invariants, is_set_by, turns, loop_exit, any_result, receiving_place, receive, call, value_of, stmt, stmts, body_end, body}
use Rattle.condition_walks.proofs.Sizes.{checks_joined, checks_each, checks_facts, code_size, all_symbolic_size}
use Rattle.condition_walks.proofs.ActionSizes.{place_checks, new_value_size, left_side_size, place_size, store_size, convert_size}
use Rattle.condition_walks.proofs.BlockSizes.{run_action_size}
use Rattle.conditions.proofs.Joins.{moved_checks}

havoc_one_size : (b : Bool) (f : FunctionInfo) (i : ℕ) (st : State) → checks (havoc_one b f i st).path ≡ 0
havoc_one_size false f i st = refl
havoc_one_size true f i st = let h = new_value_size (type_of_variable f i) st in simp (checks_joined, h) refl

havoc_size : (f : FunctionInfo) (is_set : ℕ → Bool) (i : ℕ) (vs : List VariableInfo) (st : State) → checks (havoc f is_set i vs st).path ≡ 0
havoc_size f is_set i [] st = refl
havoc_size f is_set i (v ∷ vs) st =
    let h = havoc_one_size (is_set i) f i st in
    let k = havoc_size f is_set (i + 1) vs (havoc_one (is_set i) f i st).gives in
    simp (checks_joined, h, k) refl

-- the checks of a body's end
abbrev pub end_checks : FunctionInfo → Option DeclaredType → ℕ
end_checks f None = length f.ensures_.items
end_checks f (Some ty) = 0

module _ (p : Program) (f : FunctionInfo) (a : Spot) where
  pub invariants_size : (invs : List Spec) (st : State) → checks (check_invariants p f a invs st).path ≡ length invs
  invariants_size invs st = simp (checks_each, length-map) (omega arith)

  known_size : (invs : List Spec) (st : State) → checks (assume_invariants p f a invs st).path ≡ 0
  known_size invs st = simp checks_facts refl

  pub turns_size : (invs : List Spec) (m : _) (row : Row_of-Stmt m) (st : State) → checks (turns p f a invs row st).path ≡ length invs
  turns_size invs m row st =
      let st1 = (check_invariants p f a invs st).gives in
      let st2 = (havoc f (is_set_by p f a row) 0 f.variables.items st1).gives in
      let h = invariants_size invs st in
      let k = havoc_size f (is_set_by p f a row) 0 f.variables.items st1 in
      let m = known_size invs (frame_step a.entry a.writes st2).gives in
      simp (checks_joined, h, k, m) (omega arith)

  after_moved : (b q : Bool) (st : State) (g : State → Execution State) → checks (after (interference b q st) g).path ≡ checks (g (interference b q st).gives).path
  after_moved b q st g = checks_joined (interference b q st).path (g (interference b q st).gives).path ∙ ap (λ n. n + checks (g (interference b q st).gives).path) (moved_checks b q st) ∙ omega arith

  after_turns : (invs : List Spec) {m : _} (row : Row_of-Stmt m) (st : State) (g : State → Execution State) → checks (after (turns p f a invs row st) g).path ≡ length invs + checks (g (turns p f a invs row st).gives).path
  after_turns invs row st g = let t = turns p f a invs row st in checks_joined t.path (g t.gives).path ∙ ap (λ n. n + checks (g t.gives).path) (turns_size invs _ row st)

  pub any_result_size : (ty : Option DeclaredType) (st : State) → checks (any_result p f a ty st).path ≡ 0
  any_result_size None st = refl
  any_result_size (Some ty) st = new_value_size ty st

  pub received_size : (to : Receiver) (st : State) → checks (receiving_place p f a to st).path ≡ text.receiver_checks to
  received_size Nobody st = refl
  received_size (NewVariable i) st = refl
  received_size (Left t) st = let h = left_side_size p a t st in simp (checks_joined, h) (omega arith)

  abbrev receiving : Option Place → ℕ
  receiving None = 0
  receiving (Some place) = place_checks place

  receiving_is : (to : Receiver) (st : State) → receiving (receiving_place p f a to st).gives ≡ text.receiving_checks to
  receiving_is Nobody st = refl
  receiving_is (NewVariable i) st = refl
  receiving_is (Left t) st = place_size p a t st

  receives_size : (place : Option Place) (c : Option CType) (v : ValueAndState) → checks (receive p f a place c v).path ≡ action.conversion_checks c + receiving place
  receives_size None c v = let h = convert_size p a c v.value in simp (checks_joined, h) (omega arith)
  receives_size (Some place) c v = let h = convert_size p a c v.value in simp (checks_joined, h, store_size) (omega arith)

  calls_size : (g : Option FunctionInfo) (args : List Symbolic) (place : Option Place) (c : Option CType) (st : State) → checks (call p f a g args place c st).path ≡ action.function_checks g + action.conversion_checks c + receiving place
  calls_size None args place c st = receives_size place c _ ∙ omega arith
  calls_size (Some g) args place c st =
      let w = items_of p a g.writes.items (call_scene me st.heap args) in
      let st1 = (frame_step st.heap w st).gives in
      let v = (any_result p f a g.result st1).gives in
      let h = any_result_size g.result st1 in
      let k = receives_size place c v in
      simp (checks_joined, checks_each, checks_facts, length-map, h, k) (omega arith)

  pub value_size : (e : Option Expr) (st : State) → checks (value_of p f a e st).path ≡ text.option_checks e
  value_size None st = refl
  value_size (Some e) st = code_size p a st e

  module _ (outside : a.inside ≡ false) where
    mutual
      pub stmt_size : (s : Stmt) (st : State) → checks (stmt p f a s st).path ≡ text.stmt_checks p f s
      stmt_size (Do line c) st =
          let st1 = (interference (action_reads c) (is_quiet f c) st).gives in
          let h = moved_checks (action_reads c) (is_quiet f c) st in
          let k = run_action_size p a f c st1 outside in
          checks_joined (interference (action_reads c) (is_quiet f c) st).path (run_action p a f c st1).path ∙ ap₂ (λ m n. m + n) h k ∙ omega arith
      stmt_size (If' line in_ghost e m ra n rb) st =
          let st1 = (interference (reads e) (not in_ghost) st).gives in
          let x = stmts p f a ra (without_deferred st1) in
          let y = stmts p f a rb (with_counters st1 x.gives) in
          let hm = moved_checks (reads e) (not in_ghost) st in
          let he = code_size p a st1 e in
          let hx = row_size ra (without_deferred st1) in
          let hy = row_size rb (with_counters st1 x.gives) in
          simp (checks_joined, hm, he, hx, hy) (omega arith)
      stmt_size (While' line invs e m row) st =
          let b = specs_read invs.items || reads e in
          let st1 = (interference b false st).gives in
          let st2 = (turns p f a invs.items row st1).gives in
          let st3 = (stmts p f a row st2).gives in
          let he = code_size p a st2 e in
          let hr = row_size row st2 in
          let hk = moved_checks (specs_read invs.items) false st3 in
          let hi = invariants_size invs.items (interference (specs_read invs.items) false st3).gives in
          let rest : State → Execution State = λ s2. after (code p a s2 e) (λ v. loop_exit p f a s2 (test v) (after (stmts p f a row s2) (λ s3. after (interference (specs_read invs.items) false s3) (λ s4. check_invariants p f a invs.items s4)))) in
          let h : checks (rest st2).path ≡ expr.checks e + (text.row_checks p f row + length invs.items) = simp (checks_joined, he, hr, hk, hi) (omega arith) in
          after_moved b false st (λ s1. after (turns p f a invs.items row s1) rest) ∙ after_turns invs.items row st1 rest ∙ omega (arith, h)
      stmt_size (DoWhile' line invs m row tested e) st =
          let b = specs_read invs.items in
          let st1 = (interference b false st).gives in
          let st2 = (turns p f a invs.items row st1).gives in
          let st3 = (stmts p f a row st2).gives in
          let st4 = (interference (reads e) false st3).gives in
          let hr = row_size row st2 in
          let hd = moved_checks (reads e) false st3 in
          let he = code_size p a st4 e in
          let hk = moved_checks b false st4 in
          let hi = invariants_size invs.items (interference b false st4).gives in
          let rest : State → Execution State = λ s2. after (stmts p f a row s2) (λ s3. after (interference (reads e) false s3) (λ s4. after (code p a s4 e) (λ v. loop_exit p f a s4 (test v) (after (interference b false s4) (λ s5. check_invariants p f a invs.items s5))))) in
          let h : checks (rest st2).path ≡ text.row_checks p f row + (expr.checks e + length invs.items) = simp (checks_joined, hr, hd, he, hk, hi) (omega arith) in
          after_moved b false st (λ s1. after (turns p f a invs.items row s1) rest) ∙ after_turns invs.items row st1 rest ∙ omega (arith, h)
      stmt_size (Unwrapping' line ty q e m row) st =
          let st1 = (interference true false st).gives in
          let st2 = (unwrap_object p a (term (code p a st1 e).gives) st1).gives in
          let he = code_size p a st1 e in
          let hr = row_size row st2 in
          simp (checks_joined, he, hr) (omega arith)
      stmt_size (Call line to c g es) st =
          let st1 = (interference true false st).gives in
          let place = (receiving_place p f a to st1).gives in
          let hr = received_size to st1 in
          let hs = all_symbolic_size p a st1 es.items in
          let hc = calls_size (slice_get p.functions.items g) (all_symbolic p a st1 es.items).gives place c st1 in
          let hp = receiving_is to st1 in
          simp (checks_joined, hr, hs, hc, hp) (omega arith)
      stmt_size (Return line e) st =
          let b = option_reads e || clauses_read f.ensures_.items in
          let hm = moved_checks b false st in
          let hv = value_size e (interference b false st).gives in
          simp (checks_joined, checks_each, length-map, hm, hv) (omega arith)

      pub row_size : {m : _} (row : Row_of-Stmt m) (st : State) → checks (stmts p f a row st).path ≡ text.row_checks p f row
      row_size end_of-Stmt st = refl
      row_size (more_of-Stmt s row) st =
          let t = (stmt p f a s st).gives in
          checks_joined (stmt p f a s st).path (stmts p f a row t).path ∙ ap₂ (λ m n. m + n) (stmt_size s st) (row_size row t)

    pub body_end_size : (ty : Option DeclaredType) (st : State) → checks (body_end p f a ty st).path ≡ end_checks f ty
    body_end_size (Some ty) st = refl
    body_end_size None st =
        let b = clauses_read f.ensures_.items in
        let hm = moved_checks b false st in
        simp (checks_joined, checks_each, length-map, hm) (omega arith)

    pub body_size : (ss : List Stmt) (st : State) → checks (body p f a ss st).path ≡ text.body_checks p f ss + end_checks f f.result
    body_size [] st = body_end_size f.result st ∙ omega arith
    body_size (s ∷ ss) st =
        let t = (stmt p f a s st).gives in
        checks_joined (stmt p f a s st).path (body p f a ss t).path ∙ ap₂ (λ m n. m + n) (stmt_size s st) (body_size ss t) ∙ omega arith
