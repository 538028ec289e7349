-- The quantified formulas of wraps and of rows of statements. Own: as action_quantifiers and stmts_quantifiers have them (Quantified of conditions), the rows as lists.
use Rattle.std.specs.Prelude.{ℕ, List, flat_map, length}
use Rattle.method.specs.declared.program.FunctionInfo.{FunctionInfo}
use Rattle.method.specs.declared.program.Program.{Program}
use Rattle.method.specs.declared.program.Stmt.{Stmt}
use Rattle.method.specs.Tables.{has_fixed_owns}
use Rattle.conditions.specs.Quantified.{QuantifiedFormula, members_quantified, stmt_quantifiers}

-- that of a wrap in the function, of an object of the type
abbrev pub members_at : Program → FunctionInfo → ℕ → ℕ → QuantifiedFormula
members_at p f ty n = members_quantified (has_fixed_owns p ty) n (length f.writes.items)

-- those of statements of the function
abbrev pub statements_quantifiers : Program → FunctionInfo → List Stmt → List QuantifiedFormula
statements_quantifiers p f row = flat_map (stmt_quantifiers p f) row
