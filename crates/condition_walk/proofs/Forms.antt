-- The forms of statements by lists are the definitions by rows.
use Rattle.std.specs.Prelude.{ℕ, Bool, not, ◌||◌, false, true, List, ◌++◌, ◌≡◌, Vec}
use Rattle.std.specs.Global.{Global}
use Rattle.std.proofs.Common.{refl, ap, ap₂, sym, ◌∙◌}
use mathlib.Core.Former.{Count}
use Rattle.terms.specs.declared.term.Term.{Term}
use Rattle.method.specs.declared.program.Expr.{Expr}
use Rattle.method.specs.declared.program.Spec.{Spec}
use Rattle.method.specs.declared.program.Stmt as s
use Rattle.method.specs.declared.program.FunctionInfo.{FunctionInfo}
use Rattle.method.specs.declared.program.Program.{Program}
use Rattle.method.specs.Text.{reads, specs_read, sets}
use Rattle.conditions.specs.Symbolic.{Symbolic, term, test}
use Rattle.conditions.specs.Paths.{Execution, Gives, prefix, after}
use Rattle.conditions.specs.Code.{Spot, State, ValueAndState, code}
use Rattle.conditions.specs.Actions.{conditional, unwrap_object}
use Rattle.conditions.specs.Statements.{interference, stmt, stmts, declares, row_returns, row_declares}
use Rattle.condition_code.specs.declared.walk.Step.{Step}
use Rattle.condition_code.specs.declared.state.State as code_state
use Rattle.condition_code.specs.States.{IsState}
use Rattle.condition_code.specs.Walks.{GoesTo}
use Rattle.statement_text.specs.Rows.{all_set, all_declare, one_returns}
use Rattle.statement_text.proofs.Vectors.{first_row, second_row, return_row, if_declares, while_sets, while_declares, do_while_sets, do_while_declares}
use Rattle.condition_control.specs.Forms.{set_outside, loop_left, all_stmts, evaluated, branching, any_turn, turn_end, looping, do_end, do_looping, closing, opened}
use Rattle.condition_control.proofs.Runs.{after_after, as_run}

module _ (p : Program) (f : FunctionInfo) (a : Spot) where
  pub stmts_row : (n : Count) (row : s.Row_of-Stmt n) (st : State) → stmts p f a row st ≡ all_stmts p f a (s.items-the_row-Stmt n row) st
  stmts_row n s.end_of-Stmt st = refl
  stmts_row n (s.more_of-Stmt x rest) st = ap (λ (t : Execution State). prefix (stmt p f a x st).path t) (stmts_row _ rest (stmt p f a x st).gives)

  row_does : (n : Count) (row : s.Row_of-Stmt n) → (λ (st : State). stmts p f a row st) ≡ all_stmts p f a (s.items-the_row-Stmt n row)
  row_does n row = λ i st. stmts_row n row st i

  -- a value with the state that stays, and what comes behind
  evaluated_is : (e : Expr) (st : State) (left : ValueAndState → Execution State) → after (evaluated p f a e st) left ≡ after (code p a st e) (λ v. left (record { value = v; state = st }))
  evaluated_is e st left =
      let kept : Symbolic → Execution ValueAndState = λ v. Gives (record { value = v; state = st }) in
      after_after (code p a st e) kept left

  branching_is : (in_ghost : Bool) (e : Expr) (declared : List ℕ) (r r' : Bool) (x y : State → Execution State) (st : State) → branching p f a in_ghost e declared r r' x y st ≡ after (interference (reads e) (not in_ghost) st) (λ st1. after (code p a st1 e) (λ v. conditional declared st1 (test v) r r' x y))
  branching_is in_ghost e declared r r' x y st =
      let others : Execution State = interference (reads e) (not in_ghost) st in
      let both : ValueAndState → Execution State = λ v. conditional declared v.state (test v.value) r r' x y in
      after_after others (λ st1. evaluated p f a e st1) both
      ∙ ap (λ (u : Execution State). prefix others.path u) (evaluated_is e others.gives both)

  looping_is : (invs : List Spec) (e : Expr) (is_set : ℕ → Bool) (body : State → Execution State) (st : State) → looping p f a invs e is_set body st ≡ after (interference (specs_read invs || reads e) false st) (λ st1. after (any_turn p f a invs is_set st1) (λ st2. after (code p a st2 e) (λ v. loop_left st2 (test v) (after (body st2) (λ st3. turn_end p f a invs st3)))))
  looping_is invs e is_set body st =
      let others : Execution State = interference (specs_read invs || reads e) false st in
      let turn : Execution State = any_turn p f a invs is_set others.gives in
      let left : ValueAndState → Execution State = λ v. loop_left v.state (test v.value) (after (body v.state) (λ st1. turn_end p f a invs st1)) in
      after_after others (λ st1. after (any_turn p f a invs is_set st1) (λ st2. evaluated p f a e st2)) left
      ∙ ap (λ (u : Execution State). prefix others.path u) (after_after turn (λ st2. evaluated p f a e st2) left
      ∙ ap (λ (u : Execution State). prefix turn.path u) (evaluated_is e turn.gives left))

  do_end_is : (invs : List Spec) (e : Expr) (st : State) → do_end p f a invs e st ≡ after (interference (reads e) false st) (λ st1. after (code p a st1 e) (λ v. loop_left st1 (test v) (turn_end p f a invs st1)))
  do_end_is invs e st =
      let others : Execution State = interference (reads e) false st in
      let left : ValueAndState → Execution State = λ v. loop_left v.state (test v.value) (turn_end p f a invs v.state) in
      ap (λ (u : Execution State). prefix others.path u) (evaluated_is e others.gives left)

  do_looping_is : (invs : List Spec) (e : Expr) (is_set : ℕ → Bool) (body : State → Execution State) (st : State) → do_looping p f a invs e is_set body st ≡ after (interference (specs_read invs) false st) (λ st1. after (any_turn p f a invs is_set st1) (λ st2. after (body st2) (λ st3. after (interference (reads e) false st3) (λ st4. after (code p a st4 e) (λ v. loop_left st4 (test v) (turn_end p f a invs st4))))))
  do_looping_is invs e is_set body st =
      let others : Execution State = interference (specs_read invs) false st in
      let turn : Execution State = any_turn p f a invs is_set others.gives in
      let done : Execution State = body turn.gives in
      after_after others (λ st1. any_turn p f a invs is_set st1) (λ st2. after (body st2) (λ st3. do_end p f a invs e st3))
      ∙ ap (λ (u : Execution State). prefix others.path (prefix turn.path (prefix done.path u))) (do_end_is invs e done.gives)

  opened_is : (ty q : ℕ) (e : Expr) (body : State → Execution State) (st : State) → opened p f a ty q e body st ≡ after (interference true false st) (λ st1. after (code p a st1 e) (λ o. after (unwrap_object p a (term o) st1) (λ st2. after (body st2) (λ st3. closing p f a ty q o st3))))
  opened_is ty q e body st =
      let others : Execution State = interference true false st in
      let value : Execution Symbolic = code p a others.gives e in
      let open' : Execution State = unwrap_object p a (term value.gives) others.gives in
      let kept : Symbolic → State → Execution ValueAndState = λ o st2. Gives (record { value = o; state = st2 }) in
      let rest : ValueAndState → Execution State = λ v. after (body v.state) (λ st1. closing p f a ty q v.value st1) in
      after_after others (λ st1. after (code p a st1 e) (λ o. after (unwrap_object p a (term o) st1) (kept o))) rest
      ∙ ap (λ (u : Execution State). prefix others.path u) (after_after value (λ o. after (unwrap_object p a (term o) others.gives) (kept o)) rest
      ∙ ap (λ (u : Execution State). prefix value.path u) (after_after open' (kept value.gives) rest))

  -- Statements that hold others.

  pub while_is : (line : ℕ) (invs : Vec Spec Global) (e : Expr) (body : Vec s.Stmt Global) (st : State) → looping p f a invs.items e (set_outside (all_set body.items) (all_declare body.items)) (all_stmts p f a body.items) st ≡ stmt p f a (s.While line invs e body) st
  while_is line invs e body st =
      let x = first_row (s.While line invs e body) in
      let does = row_does x.0 x.1 ∙ ap (all_stmts p f a) (s.items_hidden-the_row-Stmt-0 body) in
      sym (ap₂ (λ (is ds : List ℕ). looping p f a invs.items e (set_outside is ds) (λ st1. stmts p f a x.1 st1) st) (while_sets line invs e body) (while_declares line invs e body)
      ∙ ap (λ (go : State → Execution State). looping p f a invs.items e (set_outside (all_set body.items) (all_declare body.items)) go st) does)
      ∙ looping_is invs.items e (set_outside (sets (s.While line invs e body)) (declares (s.While line invs e body))) (λ st1. stmts p f a x.1 st1) st

  pub do_while_is : (line : ℕ) (invs : Vec Spec Global) (body : Vec s.Stmt Global) (tested : ℕ) (e : Expr) (st : State) → do_looping p f a invs.items e (set_outside (all_set body.items) (all_declare body.items)) (all_stmts p f a body.items) st ≡ stmt p f a (s.DoWhile line invs body tested e) st
  do_while_is line invs body tested e st =
      let x = first_row (s.DoWhile line invs body tested e) in
      let does = row_does x.0 x.1 ∙ ap (all_stmts p f a) (s.items_hidden-the_row-Stmt-0 body) in
      sym (ap₂ (λ (is ds : List ℕ). do_looping p f a invs.items e (set_outside is ds) (λ st1. stmts p f a x.1 st1) st) (do_while_sets line invs body tested e) (do_while_declares line invs body tested e)
      ∙ ap (λ (go : State → Execution State). do_looping p f a invs.items e (set_outside (all_set body.items) (all_declare body.items)) go st) does)
      ∙ do_looping_is invs.items e (set_outside (sets (s.DoWhile line invs body tested e)) (declares (s.DoWhile line invs body tested e))) (λ st1. stmts p f a x.1 st1) st

  pub unwrapping_is : (line ty q : ℕ) (e : Expr) (body : Vec s.Stmt Global) (st : State) → opened p f a ty q e (all_stmts p f a body.items) st ≡ stmt p f a (s.Unwrapping line ty q e body) st
  unwrapping_is line ty q e body st =
      let x = first_row (s.Unwrapping line ty q e body) in
      let does = row_does x.0 x.1 ∙ ap (all_stmts p f a) (s.items_hidden-the_row-Stmt-0 body) in
      sym (ap (λ (go : State → Execution State). opened p f a ty q e go st) does) ∙ opened_is ty q e (λ st1. stmts p f a x.1 st1) st

  pub branch_is : (line : ℕ) (in_ghost : Bool) (e : Expr) (first second : Vec s.Stmt Global) (st : State) → branching p f a in_ghost e (all_declare first.items ++ all_declare second.items) (one_returns first.items) (one_returns second.items) (all_stmts p f a first.items) (all_stmts p f a second.items) st ≡ stmt p f a (s.If line in_ghost e first second) st
  branch_is line in_ghost e first second st =
      let x = first_row (s.If line in_ghost e first second) in
      let y = second_row (s.If line in_ghost e first second) in
      let does = row_does x.0 x.1 ∙ ap (all_stmts p f a) (s.items_hidden-the_row-Stmt-0 first) in
      let does' = row_does y.0 y.1 ∙ ap (all_stmts p f a) (s.items_hidden-the_row-Stmt-0 second) in
      let ends = return_row x.0 x.1 ∙ ap one_returns (s.items_hidden-the_row-Stmt-0 first) in
      let ends' = return_row y.0 y.1 ∙ ap one_returns (s.items_hidden-the_row-Stmt-0 second) in
      sym (ap (λ (ds : List ℕ). branching p f a in_ghost e ds (row_returns x.1) (row_returns y.1) (λ st1. stmts p f a x.1 st1) (λ st1. stmts p f a y.1 st1) st) (if_declares line in_ghost e first second)
      ∙ ap₂ (λ (r r' : Bool). branching p f a in_ghost e (all_declare first.items ++ all_declare second.items) r r' (λ st1. stmts p f a x.1 st1) (λ st1. stmts p f a y.1 st1) st) ends ends'
      ∙ ap₂ (λ (go go' : State → Execution State). branching p f a in_ghost e (all_declare first.items ++ all_declare second.items) (one_returns first.items) (one_returns second.items) go go' st) does does')
      ∙ branching_is in_ghost e (row_declares x.1 ++ row_declares y.1) (row_returns x.1) (row_returns y.1) (λ st1. stmts p f a x.1 st1) (λ st1. stmts p f a y.1 st1) st

  -- Runs of them, where the code has slices.

  pub same_stmt : (st : State) {v : code_state.State} {x y : s.Stmt} {g0 g1 : List Term} {p0 p1 : List Step} → x ≡ y → GoesTo IsState g0 g1 p0 p1 v (stmt p f a y st) → GoesTo IsState g0 g1 p0 p1 v (stmt p f a x st)
  same_stmt st e h = as_run (sym (ap (λ (z : s.Stmt). stmt p f a z st) e)) h

  pub while_run : (st : State) (line : ℕ) (invs : Vec Spec Global) (e : Expr) (body : Vec s.Stmt Global) {v : code_state.State} {x : s.Stmt} {is : List Spec} {xs : List s.Stmt} {g0 g1 : List Term} {p0 p1 : List Step} → x ≡ s.While line invs e body → is ≡ invs.items → xs ≡ body.items → GoesTo IsState g0 g1 p0 p1 v (looping p f a is e (set_outside (all_set xs) (all_declare xs)) (all_stmts p f a xs) st) → GoesTo IsState g0 g1 p0 p1 v (stmt p f a x st)
  while_run st line invs e body it i b h =
      same_stmt st it (as_run (ap₂ (λ (is : List Spec) (xs : List s.Stmt). looping p f a is e (set_outside (all_set xs) (all_declare xs)) (all_stmts p f a xs) st) i b ∙ while_is line invs e body st) h)

  pub do_while_run : (st : State) (line : ℕ) (invs : Vec Spec Global) (body : Vec s.Stmt Global) (tested : ℕ) (e : Expr) {v : code_state.State} {x : s.Stmt} {is : List Spec} {xs : List s.Stmt} {g0 g1 : List Term} {p0 p1 : List Step} → x ≡ s.DoWhile line invs body tested e → is ≡ invs.items → xs ≡ body.items → GoesTo IsState g0 g1 p0 p1 v (do_looping p f a is e (set_outside (all_set xs) (all_declare xs)) (all_stmts p f a xs) st) → GoesTo IsState g0 g1 p0 p1 v (stmt p f a x st)
  do_while_run st line invs body tested e it i b h =
      same_stmt st it (as_run (ap₂ (λ (is : List Spec) (xs : List s.Stmt). do_looping p f a is e (set_outside (all_set xs) (all_declare xs)) (all_stmts p f a xs) st) i b ∙ do_while_is line invs body tested e st) h)

  pub unwrapping_run : (st : State) (line ty q : ℕ) (e : Expr) (body : Vec s.Stmt Global) {v : code_state.State} {x : s.Stmt} {xs : List s.Stmt} {g0 g1 : List Term} {p0 p1 : List Step} → x ≡ s.Unwrapping line ty q e body → xs ≡ body.items → GoesTo IsState g0 g1 p0 p1 v (opened p f a ty q e (all_stmts p f a xs) st) → GoesTo IsState g0 g1 p0 p1 v (stmt p f a x st)
  unwrapping_run st line ty q e body it b h =
      same_stmt st it (as_run (ap (λ (xs : List s.Stmt). opened p f a ty q e (all_stmts p f a xs) st) b ∙ unwrapping_is line ty q e body st) h)

  pub branch_run : (st : State) (line : ℕ) (in_ghost : Bool) (e : Expr) (first second : Vec s.Stmt Global) {v : code_state.State} {x : s.Stmt} {xs ys us ws : List s.Stmt} {g0 g1 : List Term} {p0 p1 : List Step} → x ≡ s.If line in_ghost e first second → xs ≡ first.items → ys ≡ second.items → us ≡ first.items → ws ≡ second.items → GoesTo IsState g0 g1 p0 p1 v (branching p f a in_ghost e (all_declare us ++ all_declare ws) (one_returns us) (one_returns ws) (all_stmts p f a xs) (all_stmts p f a ys) st) → GoesTo IsState g0 g1 p0 p1 v (stmt p f a x st)
  branch_run st line in_ghost e first second {us = us} {ws = ws} it i b j d h =
      same_stmt st it (as_run (ap₂ (λ (xs ys : List s.Stmt). branching p f a in_ghost e (all_declare us ++ all_declare ws) (one_returns us) (one_returns ws) (all_stmts p f a xs) (all_stmts p f a ys) st) i b
      ∙ ap₂ (λ (us ws : List s.Stmt). branching p f a in_ghost e (all_declare us ++ all_declare ws) (one_returns us) (one_returns ws) (all_stmts p f a first.items) (all_stmts p f a second.items) st) j d
      ∙ branch_is line in_ghost e first second st) h)
