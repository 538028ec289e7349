-- The types of integers, each by itself.
use Rattle.ebnf.specs.Rules.{nothing, token}
use Rattle.c_syntax.specs.declared.token.Span.{Span}
use Rattle.c_syntax.specs.declared.token.Keyword.TheVariants as k
use Rattle.int_ranges.specs.declared.ctype.CType.TheVariants as c
use Rattle.c_syntax.specs.Classes.{key}
use Rattle.c_syntax.specs.Expressions as e
use Rattle.c_syntax.specs.Expressions.{Ty}
use Rattle.c_syntax.specs.Grammar as g
use Rattle.c_syntax.specs.Grammar.{P, ◌▷◌, word}

-- `int`
abbrev pub plain_int : P (Span × Ty)
plain_int = token (key k.Int) 0 (λ x. (x.place, e.Integer c.Int))

-- `long long`, with or without `int` behind it
abbrev pub long_long : P (Span × Ty)
long_long = word (key k.Long) ▷ word (key k.Long) ▷ g.maybe_int ▷ nothing (λ i l m. (m, e.Integer c.LongLong))

-- `unsigned`, and what stands behind it
abbrev pub unsigned : P (Span × Ty)
unsigned = word (key k.Unsigned) ▷ g.unsigned_behind ▷ nothing (λ ty u. (u, ty))
