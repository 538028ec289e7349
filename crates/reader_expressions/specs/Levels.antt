-- The levels of expressions, as the reader goes through them.
use Rattle.std.specs.Prelude.{ℕ, suc, max, nat_le, ◌==◌, Bool, true, false, List, [], ◌∷◌, Result, Ok, Err, if◌then◌else◌}
use Rattle.reader_expressions.specs.declared.levels.Mode.{Mode}
use Rattle.reader_expressions.specs.declared.levels.Mode.TheVariants as m
use Rattle.reader_expressions.specs.declared.levels.Tier.{Tier}
use Rattle.reader_expressions.specs.declared.levels.Tier.TheVariants as t
use Rattle.ebnf.specs.Rules.{by_next, nothing, below as below', form}
use Rattle.ebnf.specs.Sets.{has, first, low}
use Rattle.ebnf.specs.Derives.{next}
use Rattle.ebnf.specs.Reading.{Out, TooDeep, on, reads, links}
use Rattle.c_syntax.specs.declared.tree.BinaryOperator.{BinaryOperator}
use Rattle.c_syntax.specs.declared.tree.BinaryOperator.TheVariants as op
use Rattle.c_syntax.specs.declared.tree.UnaryOperator.{UnaryOperator}
use Rattle.c_syntax.specs.declared.tree.UnaryOperator.TheVariants as u
use Rattle.c_syntax.specs.declared.token.Sign.TheVariants as s
use Rattle.c_syntax.specs.declared.token.SpecWord.TheVariants as w
use Rattle.c_syntax.specs.Lexing.{Lexeme}
use Rattle.c_syntax.specs.Classes.{sign, spec}
use Rattle.c_syntax.specs.Expressions as e
use Rattle.c_syntax.specs.Expressions.{Exp}
use Rattle.c_syntax.specs.Language.{language}
use Rattle.c_syntax.specs.Grammar as g
use Rattle.c_syntax.specs.Grammar.{P, R, ◌▷◌, word, same, change, always}
use Rattle.reader_expressions.specs.Reading.{part}

abbrev pub mode_of : Mode → g.Mode
mode_of m.Code = g.Code
mode_of m.Spec = g.InSpec

abbrev pub tier_of : Tier → g.Tier
tier_of t.Prefix = g.Prefix
tier_of t.Product = g.Product
tier_of t.Sum = g.Sum
tier_of t.Order = g.Order
tier_of t.Equality = g.Equality
tier_of t.Conjunction = g.Conjunction
tier_of t.Disjunction = g.Disjunction
tier_of t.Choice = g.Choice
tier_of t.Implication = g.Implication
tier_of t.Equivalence = g.Equivalence

-- the level of a whole expression
abbrev pub top : Mode → Tier
top m.Code = t.Choice
top m.Spec = t.Equivalence

abbrev pub level : Mode → Tier → g.N
level m t = g.Level (mode_of m) (tier_of t)

-- the level of an operator's left operand
abbrev pub below : g.Tier → g.Tier
below g.Prefix = g.Prefix
below g.Product = g.Prefix
below g.Sum = g.Product
below g.Order = g.Sum
below g.Equality = g.Order
below g.Conjunction = g.Equality
below g.Disjunction = g.Conjunction
below g.Choice = g.Disjunction
below g.Implication = g.Choice
below g.Equivalence = g.Implication

-- the class of an operator's token
abbrev pub class_of : BinaryOperator → ℕ
class_of op.Times = sign s.Star
class_of op.Over = sign s.Slash
class_of op.Modulo = sign s.Percent
class_of op.Plus = sign s.Plus
class_of op.Minus = sign s.Minus
class_of op.Less = sign s.Less
class_of op.LessEqual = sign s.LessEqual
class_of op.Greater = sign s.Greater
class_of op.GreaterEqual = sign s.GreaterEqual
class_of op.In = spec w.In
class_of op.Equal = sign s.Equal
class_of op.NotEqual = sign s.NotEqual
class_of op.And = sign s.And
class_of op.Or = sign s.Or
class_of op.Implies = sign s.Implies
class_of op.Equivalent = sign s.Equivalent

-- its level
abbrev pub own : BinaryOperator → g.Tier
own op.Times = g.Product
own op.Over = g.Product
own op.Modulo = g.Product
own op.Plus = g.Sum
own op.Minus = g.Sum
own op.Less = g.Order
own op.LessEqual = g.Order
own op.Greater = g.Order
own op.GreaterEqual = g.Order
own op.In = g.Order
own op.Equal = g.Equality
own op.NotEqual = g.Equality
own op.And = g.Conjunction
own op.Or = g.Disjunction
own op.Implies = g.Implication
own op.Equivalent = g.Equivalence

-- the level of its right operand
abbrev pub right : BinaryOperator → g.Tier
right op.Implies = g.Implication
right op.Equivalent = g.Implication
right o = below (own o)

-- annotations have each operator, code all but `\in`, `==>` and `<==>`
abbrev pub stands : g.Mode → BinaryOperator → Bool
stands g.InSpec o = true
stands g.Code op.In = false
stands g.Code op.Implies = false
stands g.Code op.Equivalent = false
stands g.Code o = true

-- the levels' numbers
abbrev pub number : g.Tier → ℕ
number g.Prefix = 0
number g.Product = 1
number g.Sum = 2
number g.Order = 3
number g.Equality = 4
number g.Conjunction = 5
number g.Disjunction = 6
number g.Choice = 7
number g.Implication = 8
number g.Equivalence = 9

-- an operator with what stands right of it
abbrev pub operator : g.Mode → ℕ → BinaryOperator → g.Tier → P (Exp → Exp)
operator m class o r = g.operator m same change always class o r

abbrev pub binary : g.Mode → BinaryOperator → P (Exp → Exp)
binary m o = operator m (class_of o) o (right o)

-- `?`, an expression, `:` and another
abbrev pub conditional : g.Mode → P (Exp → Exp)
conditional m = word (sign s.Question) ▷ below' (g.Level m g.Choice) (λ x. x) ▷ word (sign s.Colon) ▷ below' (g.Level m g.Choice) (λ x. x) ▷ nothing (λ z c y o l. e.Conditional o l y z)

-- `\in` and an owned set
abbrev pub membership : P (Exp → Exp)
membership = word (spec w.In) ▷ below' g.OwnedSet (λ x. x) ▷ nothing (λ r p l. e.Binary p op.In l r)

-- what may stand behind the left operand on a level
abbrev pub link : g.Mode → g.Tier → P (Exp → Exp)
link m g.Prefix = nothing (λ x. x)
link m g.Product = by_next (binary m op.Times) (by_next (binary m op.Over) (binary m op.Modulo))
link m g.Sum = by_next (binary m op.Plus) (binary m op.Minus)
link m g.Order = g.order_of m same change always m
link m g.Equality = by_next (binary m op.Equal) (binary m op.NotEqual)
link m g.Conjunction = binary m op.And
link m g.Disjunction = binary m op.Or
link m g.Choice = conditional m
link g.Code g.Implication = nothing (λ x. x)
link g.InSpec g.Implication = binary g.InSpec op.Implies
link g.Code g.Equivalence = nothing (λ x. x)
link g.InSpec g.Equivalence = binary g.InSpec op.Equivalent

abbrev pub apply : Exp → (Exp → Exp) → Exp
apply l f = f l

-- what is read of a left operand, so high, and a link behind it
abbrev pub joined : Exp → ℕ → Out language (Exp → Exp) → Out language Exp
joined l k out = on language out (λ f i rest. Ok (f l, suc (max k i), rest))

-- the same where there is room
abbrev pub one_link : ℕ → P (Exp → Exp) → Exp → ℕ → List Lexeme → Out language Exp
one_link room p l k ts = if nat_le (max k (low language p)) room then joined l k (part room p ts) else Err (TooDeep, ts)

-- no more than so many links behind a left operand
abbrev pub linked : ℕ → ℕ → P (Exp → Exp) → Exp → ℕ → List Lexeme → Out language Exp
linked n room p l k ts = links language (reads language room) room n always p apply l k ts

-- ---- in front of an operand

abbrev pub unary_class : UnaryOperator → ℕ
unary_class u.Not = sign s.Not
unary_class u.Negate = sign s.Minus

abbrev pub unary : g.Mode → UnaryOperator → R Exp
unary m o = form (word (unary_class o) ▷ below' (g.Level m g.Prefix) (λ x. x) ▷ nothing (λ x p. e.Unary p o x))

-- ---- arrows behind

abbrev pub arrow : g.Mode → P (Exp → Exp)
arrow m = word (sign s.Arrow) ▷ g.suffix m ▷ nothing (λ f o l. f o l)

-- an expression of this level
abbrev pub whole : Mode → Tier → P Exp
whole m t = below' (level m t) (λ x. x)
