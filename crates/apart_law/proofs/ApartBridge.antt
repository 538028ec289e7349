-- The tests of GhostApart over values of `method` are those over the pure trees that the values are seen as.
use Rattle.std.proofs.Common.{◌≡◌, ℕ, ◌+◌, true, not, ◌&&◌, ◌||◌, List, [], ◌∷◌, map, Option, Some, None, slice_get, refl, sym, ap, ◌∙◌}
use Rattle.std.specs.Prelude.{nat_le, if◌then◌else◌}
use Rattle.std.specs.Option.{option_map}
use Rattle.object_types.specs.Sets.{every}
use Rattle.method.specs.declared.program.Expr.{Expr}
use Rattle.method.specs.declared.program.Expr.TheVariants.{Number, Null, Variable, Field', Not', Negate', Arithmetic', Compare', And', Or', Choose', Convert'}
use Rattle.method.specs.declared.program.Target.{Target}
use Rattle.method.specs.declared.program.Target.TheVariants.{Local, FieldOf}
use Rattle.method.specs.declared.program.Operation.{Operation}
use Rattle.method.specs.declared.program.Operation.TheVariants.{CompareExchange, Exchange, Increment, Decrement}
use Rattle.method.specs.declared.program.InterlockedResult.{InterlockedResult}
use Rattle.method.specs.declared.program.InterlockedResult.TheVariants.{Plainly, Compared}
use Rattle.method.specs.declared.program.RightSide.{RightSide}
use Rattle.method.specs.declared.program.RightSide.TheVariants.{Compute, Malloc, NewClaim, Interlocked}
use Rattle.method.specs.declared.program.Simple.{Simple}
use Rattle.method.specs.declared.program.Simple.TheVariants.{Assign, ChangeOwned, EndClaim}
use Rattle.method.specs.declared.program.Inner.{Inner, Row_of-Inner, end_of-Inner, more_of-Inner}
use Rattle.method.specs.declared.program.Inner.TheVariants.{Inside, InsideIf'}
use Rattle.method.specs.declared.program.Action.{Action}
use Rattle.method.specs.declared.program.Action.TheVariants.{Simply, Declare, Define, WrapObject, UnwrapObject, AssertSpec, FreeObject, SpawnThread, Atomic}
use Rattle.method.specs.declared.program.Receiver.{Receiver}
use Rattle.method.specs.declared.program.Receiver.TheVariants.{Nobody, NewVariable, Place as Left}
use Rattle.method.specs.declared.program.Stmt.{Stmt, Row_of-Stmt, end_of-Stmt, more_of-Stmt}
use Rattle.method.specs.declared.program.Stmt.TheVariants.{Do, If', While', DoWhile', Unwrapping', Call, Return}
use Rattle.method.specs.declared.program.VariableInfo.{VariableInfo}
use Rattle.method.specs.declared.program.FieldInfo.{FieldInfo}
use Rattle.method.specs.declared.program.FunctionInfo.{FunctionInfo}
use Rattle.method.specs.declared.program.Program.{Program}
use Rattle.method.specs.Actions as actions
use Rattle.plain_machine.specs.PlainCode as code
use Rattle.plain_machine.specs.GhostApart as m
use Rattle.plain_machine.specs.GhostApart.{GhostApart, is_plain_type}
use Rattle.typed_program.specs.Trees as trees
use Rattle.typed_program.specs.Views as seen
use Rattle.typed_laws.proofs.Bridge.{slice_map, every_map, function_at_seen}
use Rattle.apart_law.proofs.ApartTests as t
use Rattle.apart_law.proofs.ApartTests.{ApartTested}

module _ (p : Program) (f : FunctionInfo) where
  abbrev P : trees.Program
  P = seen.program p

  abbrev F : trees.FunctionInfo
  F = seen.function f

  -- ---- variables and fields

  variable_seen : (j : ℕ) → code.is_ghost_variable p f j ≡ t.is_ghost_variable P F j
  variable_seen j = by (slice_get f.variables.items j) ∙ ap t.ghost_variable (sym (slice_map seen.variable f.variables.items j))
    where
      by : (o : Option VariableInfo) → code.ghost_variable o ≡ t.ghost_variable (option_map seen.variable o)
      by None = refl
      by (Some v) = refl

  field_seen : (g : ℕ) → code.is_ghost_field p g ≡ t.is_ghost_field P F g
  field_seen g = by (slice_get p.fields.items g) ∙ ap t.ghost_field (sym (slice_map seen.field p.fields.items g))
    where
      by : (o : Option FieldInfo) → code.ghost_field o ≡ t.ghost_field (option_map seen.field o)
      by None = refl
      by (Some v) = refl

  target_seen : (x : Target) → code.is_ghost_target p f x ≡ t.is_ghost_target P F (seen.target x)
  target_seen (Local j) = variable_seen j
  target_seen (FieldOf x g) = field_seen g

  -- ---- expressions

  expr_seen : (x : Expr) → m.concrete p f x ≡ t.concrete P F (seen.code x)
  expr_seen (Number z) = refl
  expr_seen Null = refl
  expr_seen (Variable j) = λ i. not (variable_seen j i)
  expr_seen (Field' q x g) = λ i. expr_seen x i && not (field_seen g i)
  expr_seen (Not' q x) = expr_seen x
  expr_seen (Negate' q x c) = expr_seen x
  expr_seen (Arithmetic' o q x r y c) = λ i. expr_seen x i && expr_seen y i
  expr_seen (Compare' k q x r y) = λ i. expr_seen x i && expr_seen y i
  expr_seen (And' q x r y) = λ i. expr_seen x i && expr_seen y i
  expr_seen (Or' q x r y) = λ i. expr_seen x i && expr_seen y i
  expr_seen (Choose' q x r y u z) = λ i. expr_seen x i && (expr_seen y i && expr_seen z i)
  expr_seen (Convert' q x c) = expr_seen x

  option_seen : (x : Option Expr) → m.concrete_option p f x ≡ t.concrete_option P F (option_map seen.code x)
  option_seen None = refl
  option_seen (Some x) = expr_seen x

  place_seen : (x : Target) → m.concrete_place p f x ≡ t.concrete_place P F (seen.target x)
  place_seen (Local j) = λ i. not (variable_seen j i)
  place_seen (FieldOf x g) = λ i. expr_seen x i && not (field_seen g i)

  operands_seen : (x : Operation) → every (m.concrete p f) (actions.operands x) ≡ every (t.concrete P F) (t.operands (seen.operation x))
  operands_seen (CompareExchange x y) = λ i. expr_seen x i && (expr_seen y i && true)
  operands_seen (Exchange x) = λ i. expr_seen x i && true
  operands_seen Increment = refl
  operands_seen Decrement = refl

  result_seen : (x : InterlockedResult) → m.concrete_result p f x ≡ t.concrete_result P F (seen.afterwards x)
  result_seen (Plainly c) = refl
  result_seen (Compared c b x d) = expr_seen x

  right_seen : (x : RightSide) → m.concrete_right p f x ≡ t.concrete_right P F (seen.right x)
  right_seen (Compute x) = expr_seen x
  right_seen (Malloc ty) = refl
  right_seen (NewClaim n) = refl
  right_seen (Interlocked x g o r) = λ i. (expr_seen x i && not (field_seen g i)) && (operands_seen o i && result_seen r i)

  ghost_right_seen : (x : RightSide) → m.ghost_right p f x ≡ t.ghost_right P F (seen.right x)
  ghost_right_seen (Compute x) = refl
  ghost_right_seen (Malloc ty) = refl
  ghost_right_seen (NewClaim n) = refl
  ghost_right_seen (Interlocked x g o r) = refl

  -- ---- stores

  store_seen : (x : Target) (r : RightSide) → m.store_apart p f x r ≡ t.store_apart P F (seen.target x) (seen.right r)
  store_seen x r = λ i. if target_seen x i then ghost_right_seen r i else place_seen x i && right_seen r i

  simple_seen : (x : Simple) → m.simple_apart p f x ≡ t.simple_apart P F (seen.simple x)
  simple_seen (Assign x r) = store_seen x r
  simple_seen (ChangeOwned c x xs) = refl
  simple_seen (EndClaim q x xs) = refl

  ghost_simple_seen : (x : Simple) → m.ghost_simple p f x ≡ t.ghost_simple P F (seen.simple x)
  ghost_simple_seen (Assign x r) = λ i. target_seen x i && ghost_right_seen r i
  ghost_simple_seen (ChangeOwned c x xs) = refl
  ghost_simple_seen (EndClaim q x xs) = refl

  mutual
    ghost_inner_seen : (x : Inner) → m.ghost_inner p f x ≡ t.ghost_inner P F (seen.inner x)
    ghost_inner_seen (Inside line x) = ghost_simple_seen x
    ghost_inner_seen (InsideIf' line x n a o b) = λ i. ghost_inners_seen a i && ghost_inners_seen b i

    ghost_inners_seen : {n : _} (xs : Row_of-Inner n) → m.ghost_inners p f xs ≡ t.ghost_inners P F (seen.inner_row xs)
    ghost_inners_seen end_of-Inner = refl
    ghost_inners_seen (more_of-Inner x xs) = λ i. ghost_inner_seen x i && ghost_inners_seen xs i

  inner_seen : (x : Inner) → m.inner_apart p f x ≡ t.inner_apart P F (seen.inner x)
  inner_seen (Inside line x) = simple_seen x
  inner_seen (InsideIf' line x n a o b) = λ i. ghost_inners_seen a i && ghost_inners_seen b i

  inners_seen : (xs : List Inner) → every (m.inner_apart p f) xs ≡ t.inners_apart P F (seen.inner_list xs)
  inners_seen [] = refl
  inners_seen (x ∷ xs) = λ i. inner_seen x i && inners_seen xs i

  count_seen : (xs : List Inner) → m.concrete_statements p f xs ≡ t.concrete_statements P F (seen.inner_list xs)
  count_seen [] = refl
  count_seen (x ∷ xs) = λ i. (if ghost_inner_seen x i then 0 else 1) + count_seen xs i

  -- ---- arguments

  concrete_args_seen : (is : List VariableInfo) (xs : List Expr) → m.concrete_args p f is xs ≡ t.concrete_args P F (map seen.variable is) (map seen.code xs)
  concrete_args_seen [] [] = refl
  concrete_args_seen (v ∷ is) [] = refl
  concrete_args_seen [] (x ∷ xs) = λ i. expr_seen x i && concrete_args_seen [] xs i
  concrete_args_seen (v ∷ is) (x ∷ xs) = λ i. (v.is_ghost || expr_seen x i) && concrete_args_seen is xs i

  args_seen : (k : ℕ) (xs : List Expr) → m.args_apart p f (slice_get p.functions.items k) xs ≡ t.args_apart P F (slice_get P.functions k) (map seen.code xs)
  args_seen k xs = by (slice_get p.functions.items k) ∙ ap (λ o. t.args_apart P F o (map seen.code xs)) (sym (function_at_seen p k))
    where
      by : (o : Option FunctionInfo) → m.args_apart p f o xs ≡ t.args_apart P F (option_map seen.function o) (map seen.code xs)
      by None = refl
      by (Some g) = concrete_args_seen g.variables.items xs

  -- ---- statements

  receiver_seen : (x : Receiver) → m.receiver_apart p f x ≡ t.receiver_apart P F (seen.receiver x)
  receiver_seen Nobody = refl
  receiver_seen (NewVariable j) = λ i. not (variable_seen j i)
  receiver_seen (Left x) = place_seen x

  action_seen : (x : Action) → m.action_apart p f x ≡ t.action_apart P F (seen.action x)
  action_seen (Simply x) = simple_seen x
  action_seen (Declare j) = refl
  action_seen (Define j r) = store_seen (Local j) r
  action_seen (WrapObject ty q x) = refl
  action_seen (UnwrapObject x) = refl
  action_seen (AssertSpec x) = refl
  action_seen (FreeObject x) = expr_seen x
  action_seen (SpawnThread k xs) = args_seen k xs.items
  action_seen (Atomic xs b) = λ i. inners_seen b.items i && nat_le (count_seen b.items i) 1

  ghost_action_seen : (x : Action) → m.ghost_action p f x ≡ t.ghost_action P F (seen.action x)
  ghost_action_seen (Simply x) = ghost_simple_seen x
  ghost_action_seen (Declare j) = variable_seen j
  ghost_action_seen (Define j r) = λ i. variable_seen j i && ghost_right_seen r i
  ghost_action_seen (WrapObject ty q x) = refl
  ghost_action_seen (UnwrapObject x) = refl
  ghost_action_seen (AssertSpec x) = refl
  ghost_action_seen (FreeObject x) = refl
  ghost_action_seen (SpawnThread k xs) = refl
  ghost_action_seen (Atomic xs b) = refl

  mutual
    ghost_stmt_seen : (x : Stmt) → m.ghost_stmt p f x ≡ t.ghost_stmt P F (seen.stmt x)
    ghost_stmt_seen (Do line x) = ghost_action_seen x
    ghost_stmt_seen (If' line in_ghost x n a o b) = λ i. in_ghost && (ghost_row_seen a i && ghost_row_seen b i)
    ghost_stmt_seen (While' line invs x n row) = refl
    ghost_stmt_seen (DoWhile' line invs n row tested x) = refl
    ghost_stmt_seen (Unwrapping' line ty q x n row) = refl
    ghost_stmt_seen (Call line to c k xs) = refl
    ghost_stmt_seen (Return line x) = refl

    ghost_row_seen : {n : _} (xs : Row_of-Stmt n) → m.ghost_row p f xs ≡ t.ghost_stmts P F (seen.stmt_row xs)
    ghost_row_seen end_of-Stmt = refl
    ghost_row_seen (more_of-Stmt x xs) = λ i. ghost_stmt_seen x i && ghost_row_seen xs i

  mutual
    stmt_seen : (x : Stmt) → m.stmt_apart p f x ≡ t.stmt_apart P F (seen.stmt x)
    stmt_seen (Do line x) = action_seen x
    stmt_seen (If' line in_ghost x n a o b) = λ i. if in_ghost then ghost_row_seen a i && ghost_row_seen b i else expr_seen x i && (row_seen a i && row_seen b i)
    stmt_seen (While' line invs x n row) = λ i. expr_seen x i && row_seen row i
    stmt_seen (DoWhile' line invs n row tested x) = λ i. row_seen row i && expr_seen x i
    stmt_seen (Unwrapping' line ty q x n row) = row_seen row
    stmt_seen (Call line to c k xs) = λ i. receiver_seen to i && args_seen k xs.items i
    stmt_seen (Return line x) = option_seen x

    row_seen : {n : _} (xs : Row_of-Stmt n) → m.row_apart p f xs ≡ t.stmts_apart P F (seen.stmt_row xs)
    row_seen end_of-Stmt = refl
    row_seen (more_of-Stmt x xs) = λ i. stmt_seen x i && row_seen xs i

  body_seen : (xs : List Stmt) → every (m.stmt_apart p f) xs ≡ t.stmts_apart P F (seen.stmts xs)
  body_seen [] = refl
  body_seen (x ∷ xs) = λ i. stmt_seen x i && body_seen xs i

variables_seen : (xs : List VariableInfo) → every (λ (v : VariableInfo). v.is_ghost || is_plain_type v.ty) xs ≡ every (λ (v : trees.VariableInfo). v.is_ghost || is_plain_type v.ty) (map seen.variable xs)
variables_seen = every_map seen.variable (λ v. v.is_ghost || is_plain_type v.ty) (λ v. v.is_ghost || is_plain_type v.ty) (λ v. refl)

fields_seen : (xs : List FieldInfo) → every (λ (g : FieldInfo). g.is_ghost || is_plain_type g.ty) xs ≡ every (λ (g : trees.FieldInfo). g.is_ghost || is_plain_type g.ty) (map seen.field xs)
fields_seen = every_map seen.field (λ g. g.is_ghost || is_plain_type g.ty) (λ g. g.is_ghost || is_plain_type g.ty) (λ g. refl)

pub apart_bridge : (p : Program) → ApartTested (seen.program p) → GhostApart p
apart_bridge p h = record {
  bodies = λ k f e. body_seen p f f.body.items ∙ h.bodies k (seen.function f) (function_at_seen p k ∙ ap (option_map seen.function) e);
  variables = λ k f e. variables_seen f.variables.items ∙ h.variables k (seen.function f) (function_at_seen p k ∙ ap (option_map seen.function) e);
  fields = fields_seen p.fields.items ∙ h.fields;
}
