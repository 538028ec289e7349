-- Left sides, as the reader goes through them.
use Rattle.c_syntax.specs.declared.token.Span.{Span}
use Rattle.c_syntax.specs.declared.expressions.Identifier.{Identifier}
use Rattle.c_syntax.specs.Expressions as e
use Rattle.c_syntax.specs.Expressions.{Exp}
use Rattle.c_syntax.specs.Views.{id}

-- an arrow and a field, as what they make of what stands in front
abbrev pub arrow : Span × Identifier → Exp → Exp
arrow x l = e.Field x.0 l (id x.1)
