-- The tests of GhostApart over pure trees, which a program's values are seen as.
use Rattle.std.specs.Prelude.{◌≡◌, ℕ, ◌+◌, Bool, true, false, not, ◌&&◌, ◌||◌, if◌then◌else◌, nat_le, List, [], ◌∷◌, Option, Some, None, slice_get, IsTrue}
use Rattle.object_types.specs.Sets.{every}
use Rattle.plain_machine.specs.GhostApart.{is_plain_type}
use Rattle.typed_program.specs.Trees as t
use Rattle.typed_program.specs.Trees.{Code, Target, Operation, Afterwards, Right, Simple, Inner, Inners, Action, Receiver, Stmt, Stmts, VariableInfo, FieldInfo, FunctionInfo, Program}

abbrev pub ghost_variable : Option VariableInfo → Bool
ghost_variable None = false
ghost_variable (Some v) = v.is_ghost

abbrev pub ghost_field : Option FieldInfo → Bool
ghost_field None = false
ghost_field (Some g) = g.is_ghost

abbrev pub operands : Operation → List Code
operands (t.CompareExchange x y) = x ∷ y ∷ []
operands (t.Exchange x) = x ∷ []
operands t.Increment = []
operands t.Decrement = []

module _ (p : Program) (f : FunctionInfo) where
  abbrev pub is_ghost_field : ℕ → Bool
  is_ghost_field g = ghost_field (slice_get p.fields g)

  abbrev pub is_ghost_variable : ℕ → Bool
  is_ghost_variable i = ghost_variable (slice_get f.variables i)

  abbrev pub is_ghost_target : Target → Bool
  is_ghost_target (t.Local i) = is_ghost_variable i
  is_ghost_target (t.FieldOf x g) = is_ghost_field g

  abbrev pub concrete : Code → Bool
  concrete (t.Number z) = true
  concrete t.Null = true
  concrete (t.Variable i) = not (is_ghost_variable i)
  concrete (t.Field x g) = concrete x && not (is_ghost_field g)
  concrete (t.Not x) = concrete x
  concrete (t.Negate x c) = concrete x
  concrete (t.Arithmetic o x y c) = concrete x && concrete y
  concrete (t.Compare o x y) = concrete x && concrete y
  concrete (t.And x y) = concrete x && concrete y
  concrete (t.Or x y) = concrete x && concrete y
  concrete (t.Choose x y z) = concrete x && (concrete y && concrete z)
  concrete (t.Convert x c) = concrete x

  abbrev pub concrete_option : Option Code → Bool
  concrete_option None = true
  concrete_option (Some x) = concrete x

  abbrev pub concrete_place : Target → Bool
  concrete_place (t.Local i) = not (is_ghost_variable i)
  concrete_place (t.FieldOf x g) = concrete x && not (is_ghost_field g)

  abbrev pub concrete_result : Afterwards → Bool
  concrete_result (t.Plainly c) = true
  concrete_result (t.Compared c equal x d) = concrete x

  abbrev pub concrete_right : Right → Bool
  concrete_right (t.Compute x) = concrete x
  concrete_right (t.Malloc ty) = true
  concrete_right (t.NewClaim n) = false
  concrete_right (t.Interlocked x g o r) = (concrete x && not (is_ghost_field g)) && (every concrete (operands o) && concrete_result r)

  abbrev pub ghost_right : Right → Bool
  ghost_right (t.Compute x) = true
  ghost_right (t.Malloc ty) = false
  ghost_right (t.NewClaim n) = true
  ghost_right (t.Interlocked x g o r) = false

  abbrev pub store_apart : Target → Right → Bool
  store_apart x r = if is_ghost_target x then ghost_right r else concrete_place x && concrete_right r

  abbrev pub simple_apart : Simple → Bool
  simple_apart (t.Assign x r) = store_apart x r
  simple_apart (t.ChangeOwned c x xs) = true
  simple_apart (t.EndClaim q x xs) = true

  abbrev pub ghost_simple : Simple → Bool
  ghost_simple (t.Assign x r) = is_ghost_target x && ghost_right r
  ghost_simple (t.ChangeOwned c x xs) = true
  ghost_simple (t.EndClaim q x xs) = true

  abbrev mutual
    pub ghost_inner : Inner → Bool
    ghost_inner (t.Inside line x) = ghost_simple x
    ghost_inner (t.InsideIf line x a b) = ghost_inners a && ghost_inners b

    pub ghost_inners : Inners → Bool
    ghost_inners t.NoInner = true
    ghost_inners (t.AnInner x row) = ghost_inner x && ghost_inners row

  abbrev pub inner_apart : Inner → Bool
  inner_apart (t.Inside line x) = simple_apart x
  inner_apart (t.InsideIf line x a b) = ghost_inners a && ghost_inners b

  abbrev pub inners_apart : Inners → Bool
  inners_apart t.NoInner = true
  inners_apart (t.AnInner x row) = inner_apart x && inners_apart row

  abbrev pub concrete_statements : Inners → ℕ
  concrete_statements t.NoInner = 0
  concrete_statements (t.AnInner x row) = (if ghost_inner x then 0 else 1) + concrete_statements row

  abbrev pub concrete_args : List VariableInfo → List Code → Bool
  concrete_args is [] = true
  concrete_args [] (x ∷ xs) = concrete x && concrete_args [] xs
  concrete_args (i ∷ is) (x ∷ xs) = (i.is_ghost || concrete x) && concrete_args is xs

  abbrev pub args_apart : Option FunctionInfo → List Code → Bool
  args_apart None xs = false
  args_apart (Some g) xs = concrete_args g.variables xs

  abbrev pub receiver_apart : Receiver → Bool
  receiver_apart t.Nobody = true
  receiver_apart (t.NewVariable i) = not (is_ghost_variable i)
  receiver_apart (t.Place x) = concrete_place x

  abbrev pub action_apart : Action → Bool
  action_apart (t.Simply x) = simple_apart x
  action_apart (t.Declare i) = true
  action_apart (t.Define i r) = store_apart (t.Local i) r
  action_apart (t.WrapObject ty q x) = true
  action_apart (t.UnwrapObject x) = true
  action_apart (t.AssertSpec x) = true
  action_apart (t.FreeObject x) = concrete x
  action_apart (t.SpawnThread k xs) = args_apart (slice_get p.functions k) xs
  action_apart (t.Atomic xs body) = inners_apart body && nat_le (concrete_statements body) 1

  abbrev pub ghost_action : Action → Bool
  ghost_action (t.Simply x) = ghost_simple x
  ghost_action (t.Declare i) = is_ghost_variable i
  ghost_action (t.Define i r) = is_ghost_variable i && ghost_right r
  ghost_action (t.WrapObject ty q x) = true
  ghost_action (t.UnwrapObject x) = true
  ghost_action (t.AssertSpec x) = true
  ghost_action (t.FreeObject x) = false
  ghost_action (t.SpawnThread k xs) = false
  ghost_action (t.Atomic xs body) = false

  abbrev mutual
    pub ghost_stmt : Stmt → Bool
    ghost_stmt (t.Do line x) = ghost_action x
    ghost_stmt (t.If line in_ghost x a b) = in_ghost && (ghost_stmts a && ghost_stmts b)
    ghost_stmt (t.While line invs x row) = false
    ghost_stmt (t.DoWhile line invs row tested x) = false
    ghost_stmt (t.Unwrapping line ty q x row) = false
    ghost_stmt (t.Call line to v k xs) = false
    ghost_stmt (t.Return line x) = false

    pub ghost_stmts : Stmts → Bool
    ghost_stmts t.NoStmt = true
    ghost_stmts (t.AStmt x row) = ghost_stmt x && ghost_stmts row

  abbrev mutual
    pub stmt_apart : Stmt → Bool
    stmt_apart (t.Do line x) = action_apart x
    stmt_apart (t.If line in_ghost x a b) = if in_ghost then ghost_stmts a && ghost_stmts b else concrete x && (stmts_apart a && stmts_apart b)
    stmt_apart (t.While line invs x row) = concrete x && stmts_apart row
    stmt_apart (t.DoWhile line invs row tested x) = stmts_apart row && concrete x
    stmt_apart (t.Unwrapping line ty q x row) = stmts_apart row
    stmt_apart (t.Call line to v k xs) = receiver_apart to && args_apart (slice_get p.functions k) xs
    stmt_apart (t.Return line x) = concrete_option x

    pub stmts_apart : Stmts → Bool
    stmts_apart t.NoStmt = true
    stmts_apart (t.AStmt x row) = stmt_apart x && stmts_apart row

-- `GhostApart` of tables without where they lie in memory
pub record ApartTested (p : Program) : Type 0 where
  pub bodies : (k : ℕ) (f : FunctionInfo) → slice_get p.functions k ≡ Some f → IsTrue (stmts_apart p f f.body)
  pub variables : (k : ℕ) (f : FunctionInfo) → slice_get p.functions k ≡ Some f → IsTrue (every (λ (v : VariableInfo). v.is_ghost || is_plain_type v.ty) f.variables)
  pub fields : IsTrue (every (λ (g : FieldInfo). g.is_ghost || is_plain_type g.ty) p.fields)
