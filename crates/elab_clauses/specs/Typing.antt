-- Clauses and structs as they are typed, with their conjuncts' shapes numbered. Own.
use Rattle.std.specs.Prelude.{ℕ, ◌+◌, Bool, true, false, List, [], ◌∷◌, map}
use Rattle.c_syntax.specs.declared.tree.Condition.{Condition}
use Rattle.c_syntax.specs.declared.tree.Condition.TheVariants as conditions
use Rattle.c_syntax.specs.Statements.{Inv}
use Rattle.c_syntax.specs.Items as i
use Rattle.c_syntax.specs.Items.{Clause, Written}
use Rattle.elab_annotations.specs.Views.{Several}
use Rattle.typed_program.specs.Annotations.{spec}
use Rattle.typed_program.specs.Numbers.{Around}
use Rattle.typed_program.specs.Shapes.{numbered}
use Rattle.typed_program.specs.Tables as tables
use Rattle.typed_program.specs.Trees as t
use Rattle.elab_clauses.specs.Numberings.{Numbering}
use Rattle.elab_clauses.specs.declared.contracts.Boundary.{Boundary}
use Rattle.elab_clauses.specs.declared.contracts.Boundary.TheVariants as boundaries

-- a struct's invariants, and the number behind them. Own
abbrev pub struct_invariants : Numbering → Around → ℕ → List Inv → Several
struct_invariants k a n xs = record { specs = map (numbered k.shapes k.sorts) (tables.each_invariant (λ m x. spec a m x ∷ []) n xs); next = n + tables.struct_formulas xs }

-- a contract's clauses that have to hold in front, with numbered shapes. Own
abbrev pub preconditions : Numbering → Around → ℕ → List Clause → List t.Clause
preconditions k a n xs = map (tables.numbered_clause k.shapes k.sorts) (tables.each_clause (tables.precondition a) n xs)

-- those that have to hold behind. Own
abbrev pub postconditions : Numbering → Around → ℕ → List Clause → List t.Clause
postconditions k a n xs = map (tables.numbered_clause k.shapes k.sorts) (tables.each_clause (tables.postcondition a) n xs)

-- whether a condition has to hold where a function begins, or where it ends. VCC manual
abbrev pub holds_at : Boundary → Condition → Bool
holds_at boundaries.Entry conditions.Ensures = false
holds_at boundaries.Entry _ = true
holds_at boundaries.Exit conditions.Requires = false
holds_at boundaries.Exit _ = true

-- what has to hold there by a clause. Own
abbrev pub clause_at : Boundary → Around → ℕ → Clause → List t.Clause
clause_at boundaries.Entry = tables.precondition
clause_at boundaries.Exit = tables.postcondition

-- what has to hold there by a contract, with numbered shapes. Own
abbrev pub clauses_at : Boundary → Numbering → Around → ℕ → List Clause → List t.Clause
clauses_at b k a n xs = map (tables.numbered_clause k.shapes k.sorts) (tables.each_clause (clause_at b a) n xs)

-- what its writes lists name. Own
abbrev pub written : Numbering → Around → ℕ → List Clause → List t.Spec
written k a n xs = map (numbered k.shapes k.sorts) (tables.each_clause (tables.written a) n xs)

-- whether an item of a writes list has to be mutable. VCC manual
abbrev pub is_whole : Written → Bool
is_whole (i.Thing x) = false
is_whole (i.SpanOf p x) = true
is_whole (i.ExtentOf p x) = true
