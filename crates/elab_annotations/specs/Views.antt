-- What values of the code stand for.
use Rattle.std.specs.Prelude.{ℕ, ◌+◌, List}
use Rattle.c_syntax.specs.Expressions.{Exp}
use Rattle.typed_program.specs.Trees as t
use Rattle.typed_program.specs.Numbers.{Around}
use Rattle.typed_program.specs.Annotations as a
use Rattle.typed_program.specs.Views as view
use Rattle.elab_annotations.specs.declared.annotations.TypedSpec.{TypedSpec}
use Rattle.elab_annotations.specs.declared.parts.BoxedSpec.{BoxedSpec}
use Rattle.elab_annotations.specs.declared.rows.Row.{Row}

-- an expression of an annotation as it is typed, and the number that the next quantified formula behind it has. Own
pub record Typed : Type 0 where
  pub spec : t.Spec
  pub next : ℕ

abbrev pub annotation : TypedSpec → Typed
annotation x = record { spec = view.spec x.spec; next = x.next }

-- the same in a box
abbrev pub boxed : BoxedSpec → Typed
boxed x = record { spec = view.spec x.spec.value; next = x.next }

abbrev pub typed : Around → ℕ → Exp → Typed
typed c n x = record { spec = a.spec c n x; next = n + a.formulas x }

-- several expressions as they are typed, and the number that the next quantified formula behind them has. Own
pub record Several : Type 0 where
  pub specs : List t.Spec
  pub next : ℕ

abbrev pub row_of : Row → Several
row_of x = record { specs = view.specs x.specs.items; next = x.next }
