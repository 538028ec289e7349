-- Code without annotations, and how it comes from the code of a typed program. Own.
-- A ghost statement is one that stores to a ghost variable or field, declares a ghost variable, or changes owners or claims; a ghost `if`, wrap, unwrap and assert. These leave; the bodies of unwrapping and atomic blocks stay, without the heads.
use Rattle.std.specs.Prelude.{ℕ, Bool, false, if◌then◌else◌, List, [], ◌∷◌, Option, Some, None, slice_get}
use Rattle.int_ranges.specs.declared.ctype.CType.{CType}
use Rattle.method.specs.declared.program.Expr.{Expr}
use Rattle.method.specs.declared.program.Target.{Target}
use Rattle.method.specs.declared.program.Target.TheVariants.{Local, FieldOf}
use Rattle.method.specs.declared.program.Operation.{Operation}
use Rattle.method.specs.declared.program.InterlockedResult.{InterlockedResult}
use Rattle.method.specs.declared.program.RightSide.{RightSide}
use Rattle.method.specs.declared.program.RightSide.TheVariants.{Compute, Malloc, NewClaim, Interlocked}
use Rattle.method.specs.declared.program.Simple.{Simple}
use Rattle.method.specs.declared.program.Simple.TheVariants.{Assign, ChangeOwned, EndClaim}
use Rattle.method.specs.declared.program.Inner.{Inner}
use Rattle.method.specs.declared.program.Inner.TheVariants.{Inside, InsideIf'}
use Rattle.method.specs.declared.program.Action.{Action}
use Rattle.method.specs.declared.program.Action.TheVariants.{Simply, Declare, Define, WrapObject, UnwrapObject, AssertSpec, FreeObject, SpawnThread, Atomic}
use Rattle.method.specs.declared.program.Receiver.{Receiver}
use Rattle.method.specs.declared.program.Stmt.{Stmt, Row_of-Stmt, end_of-Stmt, more_of-Stmt}
use Rattle.method.specs.declared.program.Stmt.TheVariants.{Do, If', While', DoWhile', Unwrapping', Call, Return}
use Rattle.method.specs.declared.program.VariableInfo.{VariableInfo}
use Rattle.method.specs.declared.program.FieldInfo.{FieldInfo}
use Rattle.method.specs.declared.program.FunctionInfo.{FunctionInfo}
use Rattle.method.specs.declared.program.Program.{Program}
use Rattle.method.specs.Actions.{Place}
use Rattle.method.specs.Machine.{Remaining, Run, Test, WrapAgain, Receive}

-- what stands right of `=`
pub data PlainRight : Type 0 where
  Worth : Expr → PlainRight
  NewObject : (ty : ℕ) → PlainRight
  Exchange : Expr → (field : ℕ) → Operation → InterlockedResult → PlainRight

-- What is left of a function's code: an item, with its line, and what stands behind it. A loop comes back behind its body; `TestItem` is the test of a `do`, with the whole loop; `ReceiveItem` the store of a call's value.
pub data Code : Type 0 where
  CodeEnd : Code
  StoreItem : ℕ → Target → PlainRight → Code → Code
  DeclareItem : ℕ → (variable : ℕ) → Code → Code
  FreeItem : ℕ → Expr → Code → Code
  SpawnItem : ℕ → (function : ℕ) → List Expr → Code → Code
  BranchItem : ℕ → Expr → Code → Code → Code → Code
  LoopItem : ℕ → Expr → (body : Code) → Code → Code
  DoItem : ℕ → (body : Code) → (tested : ℕ) → Expr → Code → Code
  TestItem : ℕ → Expr → (loop : Code) → Code → Code
  CallItem : ℕ → Receiver → Option CType → (function : ℕ) → List Expr → Code → Code
  ReturnItem : ℕ → Option Expr → Code → Code
  ReceiveItem : ℕ → Place → Option CType → Code → Code

-- code, and other code behind it
abbrev pub join_code : Code → Code → Code
join_code CodeEnd d = d
join_code (StoreItem line t r c) d = StoreItem line t r (join_code c d)
join_code (DeclareItem line i c) d = DeclareItem line i (join_code c d)
join_code (FreeItem line e c) d = FreeItem line e (join_code c d)
join_code (SpawnItem line k es c) d = SpawnItem line k es (join_code c d)
join_code (BranchItem line e a b c) d = BranchItem line e a b (join_code c d)
join_code (LoopItem line e body c) d = LoopItem line e body (join_code c d)
join_code (DoItem line body tested e c) d = DoItem line body tested e (join_code c d)
join_code (TestItem line e loop c) d = TestItem line e loop (join_code c d)
join_code (CallItem line to v k es c) d = CallItem line to v k es (join_code c d)
join_code (ReturnItem line e c) d = ReturnItem line e (join_code c d)
join_code (ReceiveItem line place v c) d = ReceiveItem line place v (join_code c d)

abbrev pub ghost_variable : Option VariableInfo → Bool
ghost_variable None = false
ghost_variable (Some v) = v.is_ghost

abbrev pub ghost_field : Option FieldInfo → Bool
ghost_field None = false
ghost_field (Some f) = f.is_ghost

abbrev pub is_ghost_field : Program → ℕ → Bool
is_ghost_field p f = ghost_field (slice_get p.fields.items f)

module _ (p : Program) (f : FunctionInfo) where
  abbrev pub is_ghost_variable : ℕ → Bool
  is_ghost_variable i = ghost_variable (slice_get f.variables.items i)

  abbrev pub is_ghost_target : Target → Bool
  is_ghost_target (Local i) = is_ghost_variable i
  is_ghost_target (FieldOf e g) = is_ghost_field p g

  -- a store, where it isn't ghost; a new claim is ghost wherever it goes
  abbrev pub plain_store_of : ℕ → Target → RightSide → Code → Code
  plain_store_of line t (Compute e) c = if is_ghost_target t then c else StoreItem line t (Worth e) c
  plain_store_of line t (Malloc ty) c = if is_ghost_target t then c else StoreItem line t (NewObject ty) c
  plain_store_of line t (NewClaim n) c = c
  plain_store_of line t (Interlocked e g op then') c = if is_ghost_target t then c else StoreItem line t (Exchange e g op then') c

  abbrev pub plain_simple : ℕ → Simple → Code → Code
  plain_simple line (Assign t r) c = plain_store_of line t r c
  plain_simple line (ChangeOwned o e es) c = c
  plain_simple line (EndClaim q e es) c = c

  -- an `if` inside an atomic block is ghost
  abbrev pub plain_inner : List Inner → Code → Code
  plain_inner [] c = c
  plain_inner (Inside line s ∷ is) c = plain_simple line s (plain_inner is c)
  plain_inner (InsideIf' line e m a n b ∷ is) c = plain_inner is c

  abbrev pub plain_action : ℕ → Action → Code → Code
  plain_action line (Simply s) c = plain_simple line s c
  plain_action line (Declare i) c = if is_ghost_variable i then c else DeclareItem line i c
  plain_action line (Define i r) c = plain_store_of line (Local i) r c
  plain_action line (WrapObject ty q e) c = c
  plain_action line (UnwrapObject e) c = c
  plain_action line (AssertSpec e) c = c
  plain_action line (FreeObject e) c = FreeItem line e c
  plain_action line (SpawnThread k es) c = SpawnItem line k es.items c
  plain_action line (Atomic ls body) c = plain_inner body.items c

  -- a statement without its annotations, before this code
  abbrev mutual
    pub plain_stmt : Stmt → Code → Code
    plain_stmt (Do line x) c = plain_action line x c
    plain_stmt (If' line in_ghost e m a n b) c = if in_ghost then c else BranchItem line e (plain_row a CodeEnd) (plain_row b CodeEnd) c
    plain_stmt (While' line invs e m row) c = LoopItem line e (plain_row row CodeEnd) c
    plain_stmt (DoWhile' line invs m row tested e) c = DoItem line (plain_row row CodeEnd) tested e c
    plain_stmt (Unwrapping' line ty q e m row) c = plain_row row c
    plain_stmt (Call line to v k es) c = CallItem line to v k es.items c
    plain_stmt (Return line e) c = ReturnItem line e c

    pub plain_row : {m : _} → Row_of-Stmt m → Code → Code
    plain_row end_of-Stmt c = c
    plain_row (more_of-Stmt s row) c = plain_stmt s (plain_row row c)

  abbrev pub plain_list : List Stmt → Code → Code
  plain_list [] c = c
  plain_list (s ∷ ss) c = plain_stmt s (plain_list ss c)

  -- what is left of the machine's code
  abbrev pub plain_code : List Remaining → Code
  plain_code [] = CodeEnd
  plain_code (Run s ∷ code) = plain_stmt s (plain_code code)
  plain_code (Test line e s ∷ code) = TestItem line e (plain_stmt s CodeEnd) (plain_code code)
  plain_code (WrapAgain line ty o ∷ code) = plain_code code
  plain_code (Receive line place v ∷ code) = ReceiveItem line place v (plain_code code)

  abbrev pub plain_body : Code
  plain_body = plain_list f.body.items CodeEnd
