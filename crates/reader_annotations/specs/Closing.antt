-- Where a bracket ends.
use Rattle.std.specs.Prelude.{List}
use Rattle.ebnf.specs.Reading.{Out}
use Rattle.c_syntax.specs.declared.token.Span.{Span}
use Rattle.c_syntax.specs.declared.token.Sign.TheVariants as s
use Rattle.c_syntax.specs.Classes.{sign}
use Rattle.c_syntax.specs.Lexing.{Lexeme}
use Rattle.c_syntax.specs.Language.{language}
use Rattle.reader_expressions.specs.Reading.{one_token}

-- the `)` that comes next, as its place
abbrev pub closing : List Lexeme → Out language Span
closing = one_token (sign s.Close) 0 (λ x. x.place)
