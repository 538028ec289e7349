-- Statements of none of the forms that a function types.
use Rattle.std.proofs.Common.{◌≡◌, Option, refl}
use Rattle.c_syntax.specs.declared.token.Span.{Span}
use Rattle.c_syntax.specs.declared.expressions.Assignment.{Assignment}
use Rattle.c_syntax.specs.declared.expressions.Call.{Call}
use Rattle.c_syntax.specs.declared.expressions.Expr.{Expr}
use Rattle.c_syntax.specs.declared.expressions.Identifier.{Identifier}
use Rattle.c_syntax.specs.declared.expressions.Right.{Right}
use Rattle.c_syntax.specs.declared.expressions.ValueType.{ValueType}
use Rattle.c_syntax.specs.declared.statements.Stmt as s
use Rattle.c_syntax.specs.declared.statements.Stmt.TheVariants as v
use Rattle.c_syntax.specs.Views.{stm}
use Rattle.typed_program.specs.Numbers.{Around}
use Rattle.typed_program.specs.Statements.{Counters}
use Rattle.elab_statements.specs.Forms.{simple_row}
use Rattle.elab_statements.specs.Rows.{nothing}

pub no_simple : (a : Around) (n : Counters) (x : s.Stmt) → ((p : Span) (ty : ValueType) (y : Identifier) (r : Option Right) → x ≡ s.Declare p ty y r → ⊥) → ((p : Span) (y : Assignment) → x ≡ s.Assign p y → ⊥)
    → ((p : Span) (y : Call) → x ≡ s.Call p y → ⊥) → ((p : Span) (y : Option Expr) → x ≡ s.Return p y → ⊥) → nothing n ≡ simple_row a n (stm x)
no_simple a n (v.Declare p ty y r) d f g h = absurd (d _ _ _ _ refl)
no_simple a n (v.Assign p y) d f g h = absurd (f _ _ refl)
no_simple a n (v.Call p y) d f g h = absurd (g _ _ refl)
no_simple a n (v.Return p y) d f g h = absurd (h _ _ refl)
no_simple a n _ d f g h = refl
