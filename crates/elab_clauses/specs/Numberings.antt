-- Annotations with numbered shapes. Own.
use Rattle.std.specs.Prelude.{ℕ, ◌+◌, List, map}
use Rattle.c_syntax.specs.Expressions.{Exp}
use Rattle.c_syntax.specs.Statements.{Inv}
use Rattle.elab_annotations.specs.Views.{Typed, Several}
use Rattle.elab_shapes.specs.Views as claims
use Rattle.typed_program.specs.Annotations.{formulas, spec}
use Rattle.typed_program.specs.Numbers.{Around}
use Rattle.typed_program.specs.Shapes.{Sorts, numbered}
use Rattle.typed_program.specs.Statements as s
use Rattle.typed_program.specs.Statements.{in_invariants}
use Rattle.typed_program.specs.Trees as t
use Rattle.typed_program.specs.Views as view
use Rattle.elab_clauses.specs.declared.numbering.Numbering as declared

-- the shapes of a program, and the sorts of a function's variables. Own
pub record Numbering : Type 0 where
  pub shapes : List t.Shape
  pub sorts : Sorts

abbrev pub numbering : declared.Numbering → Numbering
numbering n = record { shapes = map view.shape n.shapes.now; sorts = claims.sorts n.sorts.now }

-- an annotation in which conjuncts stand by the numbers of their shapes. Own
abbrev pub said : Numbering → Around → ℕ → Exp → t.Spec
said k a n x = numbered k.shapes k.sorts (spec a n x)

abbrev pub typed_said : Numbering → Around → ℕ → Exp → Typed
typed_said k a n x = record { spec = said k a n x; next = n + formulas x }

-- a loop's invariants. Own
abbrev pub said_invariants : Numbering → Around → ℕ → List Inv → Several
said_invariants k a n is = record { specs = map (numbered k.shapes k.sorts) (s.invariants a n is); next = n + in_invariants is }
