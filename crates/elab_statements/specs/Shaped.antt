-- Statements as they are typed, with their conjuncts' shapes numbered. Own.
use Rattle.std.specs.Prelude.{ℕ, List, Option, None, Some}
use Rattle.c_syntax.specs.Expressions.{Id, Ty, Exp, Rhs}
use Rattle.c_syntax.specs.Statements.{Stm, Stms}
use Rattle.typed_program.specs.Annotations.{formulas}
use Rattle.typed_program.specs.Numbers.{Around}
use Rattle.typed_program.specs.Statements as s
use Rattle.typed_program.specs.Statements.{Counters, plus, some_formulas, in_statement, in_statements}
use Rattle.typed_program.specs.Tables.{numbered_row}
use Rattle.typed_program.specs.Trees as t
use Rattle.elab_clauses.specs.Numberings.{Numbering, said}
use Rattle.elab_statements.specs.Rows.{Typed, single, appended}

-- a statement. Own
abbrev pub typed_statement : Numbering → Around → Counters → Stm → Typed
typed_statement k a n x = record { statements = numbered_row k.shapes k.sorts (s.row a n x); next = plus n (in_statement x) }

abbrev pub typed_statements : Numbering → Around → Counters → Stms → Typed
typed_statements k a n xs = record { statements = numbered_row k.shapes k.sorts (s.rows a n xs); next = plus n (in_statements xs) }

-- ---- forms out of parts

-- a declaration. ISO/IEC 9899 6.7
abbrev pub declared_statement : Around → ℕ → Ty → Id → Option Rhs → t.Stmt
declared_statement a line ty x None = t.Do line (t.Declare (s.variable a x))
declared_statement a line ty x (Some r) = s.defined a line ty x r

-- `_(assert E)`. VCC manual
abbrev pub asserted : Numbering → Around → Counters → ℕ → Exp → Typed
asserted k a n line x = single (plus n (some_formulas (formulas x))) (t.Do line (t.AssertSpec (said k a n.formulas x)))

-- a loop. ISO/IEC 9899 6.8.5
abbrev pub while_row : ℕ → List t.Spec → t.Code → Typed → Typed
while_row line is x body = single body.next (t.While line is x body.statements)

-- `for`: what stands in front, and a loop whose body ends with the last assignment. ISO/IEC 9899 6.8.5.3
abbrev pub for_row : ℕ → Typed → List t.Spec → t.Code → Typed → t.Stmts → Typed
for_row line front is x body last = appended front (while_row line is x (record { statements = s.append body.statements last; next = body.next }))

abbrev pub do_row : ℕ → List t.Spec → Typed → ℕ → t.Code → Typed
do_row line is body tested x = single body.next (t.DoWhile line is body.statements tested x)

-- an unwrapping block. VCC manual
abbrev pub unwrapping_row : ℕ → ℕ → ℕ → t.Code → Typed → Typed
unwrapping_row line ty q x body = single body.next (t.Unwrapping line ty q x body.statements)
