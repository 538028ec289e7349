-- A call that is a statement by itself: its value is discarded (C), so there is nothing to convert it to.
-- Own: typed sources convert only a value that is received, but the tables of a program could name another conversion.
use Rattle.std.specs.Prelude.{◌≡◌, ℕ, Bool, true, false, ◌&&◌, None, Some, Option, slice_get, IsTrue}
use Rattle.object_types.specs.Sets.{every}
use Rattle.int_ranges.specs.declared.ctype.CType.{CType}
use Rattle.method.specs.declared.program.Receiver.{Receiver}
use Rattle.method.specs.declared.program.Receiver.TheVariants.{Nobody, NewVariable, Place as Left}
use Rattle.method.specs.declared.program.Stmt.{Stmt, Row_of-Stmt, end_of-Stmt, more_of-Stmt}
use Rattle.method.specs.declared.program.Stmt.TheVariants.{Do, If', While', DoWhile', Unwrapping', Call, Return}
use Rattle.method.specs.declared.program.FunctionInfo.{FunctionInfo}
use Rattle.method.specs.declared.program.Program.{Program}

-- A call's conversion, if it has one, is of a value that is received.
abbrev pub is_conversion_received : Receiver → Option CType → Bool
is_conversion_received Nobody None = true
is_conversion_received Nobody (Some c) = false
is_conversion_received (NewVariable i) c = true
is_conversion_received (Left t) c = true

-- So it is of each call in a statement, and in a row of statements.
abbrev mutual
  pub stmt_conversions_received : Stmt → Bool
  stmt_conversions_received (Do line c) = true
  stmt_conversions_received (If' line in_ghost e m a n b) = row_conversions_received a && row_conversions_received b
  stmt_conversions_received (While' line invs e m row) = row_conversions_received row
  stmt_conversions_received (DoWhile' line invs m row tested e) = row_conversions_received row
  stmt_conversions_received (Unwrapping' line ty q e m row) = row_conversions_received row
  stmt_conversions_received (Call line to c g es) = is_conversion_received to c
  stmt_conversions_received (Return line e) = true

  pub row_conversions_received : {m : _} → Row_of-Stmt m → Bool
  row_conversions_received end_of-Stmt = true
  row_conversions_received (more_of-Stmt s row) = stmt_conversions_received s && row_conversions_received row

-- So it is in each function of the program.
pub record ConversionsAreReceived (p : Program) : Type 0 where
  pub bodies : (k : ℕ) (f : FunctionInfo) → slice_get p.functions.items k ≡ Some f → IsTrue (every stmt_conversions_received f.body.items)
