-- What stands behind an arrow, as the function of the arrow's place that it makes of what stands in front; and arrows up to one that ends with the owned set.
use Rattle.std.specs.Prelude.{ℕ, suc, max, nat_le, Bool, false, ◌&&◌, ◌==◌, if◌then◌else◌, List, [], ◌∷◌, Result, Ok, Err}
use Rattle.ebnf.specs.Rules.{nothing}
use Rattle.ebnf.specs.Sets.{has, first}
use Rattle.ebnf.specs.Derives.{next}
use Rattle.ebnf.specs.Reading.{Out, TooDeep, on, take, reads, climbs}
use Rattle.c_syntax.specs.declared.token.Span.{Span}
use Rattle.c_syntax.specs.declared.token.Sign.TheVariants as signs
use Rattle.c_syntax.specs.Classes.{sign}
use Rattle.c_syntax.specs.Lexing.{Lexeme}
use Rattle.c_syntax.specs.Expressions as e
use Rattle.c_syntax.specs.Expressions.{Id, Exp}
use Rattle.c_syntax.specs.Views.{id}
use Rattle.c_syntax.specs.Grammar as g
use Rattle.c_syntax.specs.Grammar.{P, ◌▷◌}
use Rattle.c_syntax.specs.Language.{language}
use Rattle.reader_expressions.specs.declared.arrows.Suffix.{Suffix}
use Rattle.reader_expressions.specs.declared.arrows.Suffix.TheVariants as s
use Rattle.reader_expressions.specs.Reading.{part}

abbrev pub suffix : Suffix → Span → Exp → Exp
suffix (s.Field x) = λ o l. e.Field o l (id x)
suffix (s.Status p x) = λ o l. e.State o l p x

abbrev pub with_token : Suffix → Lexeme → Exp → Exp
with_token x = λ o l. suffix x o.place l

-- a suffix that leaves an expression, and the one that ends with the owned set
abbrev pub more : P (Lexeme → Exp → Exp)
more = g.suffix g.InSpec ▷ nothing (λ f o l. f o.place l)

abbrev pub last : P (Lexeme → Exp → Exp)
last = g.owns ▷ nothing (λ f o l. f o.place l)

abbrev pub arrow : ℕ
arrow = sign signs.Arrow

-- an arrow comes next with the first of these behind
abbrev pub goes_on : List Lexeme → Bool
goes_on [] = false
goes_on (x ∷ mid) = (language.class x == arrow) && has (first language more) (next language mid)

-- one arrow of the first kind
abbrev pub step : ℕ → Exp → ℕ → List Lexeme → Out language Exp
step room l k ts = on language (take language arrow ts) (λ x i mid. if nat_le (suc (max k 1)) room then on language (part room more mid) (λ f j rest. Ok (f x l, suc (max k j), rest)) else Err (TooDeep, mid))

-- the arrow that ends it
abbrev pub end : ℕ → Exp → ℕ → List Lexeme → Out language Exp
end room l k ts = on language (take language arrow ts) (λ x i mid. on language (part room last mid) (λ f j rest. Ok (f x l, suc (max k j), rest)))

-- no more than so many arrows
abbrev pub climbed : ℕ → ℕ → Exp → ℕ → List Lexeme → Out language Exp
climbed n room l k ts = climbs language (reads language room) room n arrow more last l k ts
