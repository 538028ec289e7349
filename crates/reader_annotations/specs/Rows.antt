-- Rows of the grammar, as the reader goes through them.
use Rattle.std.specs.Prelude.{ℕ, suc, max, ◌==◌, Bool, ◌&&◌, if◌then◌else◌, List, Option, Some, Ok, Err}
use Rattle.ebnf.specs.Rules.{token, below, nothing, by_value, by_next, many, form}
use Rattle.ebnf.specs.Derives.{next}
use Rattle.ebnf.specs.Reading.{Out, on, reads, links}
use Rattle.c_syntax.specs.declared.token.Span.{Span}
use Rattle.c_syntax.specs.declared.token.Keyword.TheVariants as k
use Rattle.c_syntax.specs.declared.token.SpecWord.TheVariants as w
use Rattle.c_syntax.specs.declared.token.Sign.TheVariants as s
use Rattle.c_syntax.specs.Classes.{key, spec, sign}
use Rattle.c_syntax.specs.Lexing.{Lexeme}
use Rattle.c_syntax.specs.Language.{language}
use Rattle.c_syntax.specs.Expressions as e
use Rattle.c_syntax.specs.Expressions.{Exp}
use Rattle.c_syntax.specs.Ghosts as h
use Rattle.c_syntax.specs.Ghosts.{Members, OwnsEffect, GhostRhs, GStm}
use Rattle.c_syntax.specs.Statements as st
use Rattle.c_syntax.specs.Statements.{Inv, Stm}
use Rattle.c_syntax.specs.Grammar as g
use Rattle.c_syntax.specs.Grammar.{P, R, ◌▷◌, word, name}
use Rattle.reader_expressions.specs.Reading.{part}

-- ---- sets

abbrev pub several : P Members
several = g.set ▷ nothing (λ xs. h.Several xs)

abbrev pub one : P Members
one = g.code ▷ nothing (λ x. h.One x)

-- ---- places in ghost code

-- what may stand behind an arrow
abbrev pub suffix : P (Span → Exp → Exp)
suffix = by_next g.field g.owns

-- an arrow may go on with what is found
abbrev pub goes_on : Exp → List Lexeme → Bool
goes_on l ts = g.is_no_owns l && (next language ts == sign s.Arrow)

-- no more than so many arrows, of which the last may end with the owned set
abbrev pub linked : ℕ → ℕ → Exp → ℕ → List Lexeme → Out language Exp
linked n room l k ts = links language (reads language room) room n g.is_no_owns g.ghost_arrow g.apply_to l k ts

-- ---- right sides in ghost code

abbrev pub claim_right : P GhostRhs
claim_right = below g.MakeClaim (λ x. x)

abbrev pub value_right : P GhostRhs
value_right = g.code ▷ nothing (λ x. h.Value x)

-- ---- changes of owned sets

abbrev pub becomes : P (Span × OwnsEffect)
becomes = word (sign s.Assign) ▷ g.set ▷ nothing (λ xs o. (o, h.Become xs))

abbrev pub joins : P (Span × OwnsEffect)
joins = word (sign s.AddAssign) ▷ g.members ▷ nothing (λ x o. (o, h.Join x))

abbrev pub leaves : P (Span × OwnsEffect)
leaves = word (sign s.SubtractAssign) ▷ g.members ▷ nothing (λ x o. (o, h.Leave x))

-- ---- ghost statements that hold no others

abbrev pub some_value : P (Option GhostRhs)
some_value = g.ghost_first ▷ nothing (λ x. Some x)

abbrev pub first_value : P (Option GhostRhs)
first_value = g.optional g.ghost_first

abbrev pub declared : R GStm
declared = form (g.gtype ▷ name ▷ first_value ▷ g.semicolon_or_none ▷ nothing (λ z x n ty. h.Declare ty.0 ty.1 n x))

-- a left side so high, and what is read behind it
abbrev pub following : ℕ → P (Exp → GStm) → Exp → ℕ → List Lexeme → Out language GStm
following room p l k ts = on language (part room p ts) (λ f i rest. Ok (f l, suc (max k i), rest))

abbrev pub assigned : ℕ → Exp → ℕ → List Lexeme → Out language GStm
assigned room l k ts = if g.is_owns l then following room g.owns_set l k ts else following room g.ghost_set l k ts

abbrev pub assigned_name : R GStm
assigned_name = form (by_value (below g.GhostName (λ x. x)) g.is_owns g.owns_set g.ghost_set)

abbrev pub assigned_other : R GStm
assigned_other = form (by_value (below g.GhostOther (λ x. x)) g.is_owns g.owns_set g.ghost_set)

-- the claimed objects of `\destroy_claim`, up to its end
abbrev pub destroyed_set : P (Exp → Span → Span → GStm)
destroyed_set = word (sign s.Comma) ▷ g.set ▷ word (sign s.Close) ▷ g.semicolon_or_none ▷ nothing (λ z c xs m x o p. h.DestroyClaim p x xs)

abbrev pub destroyed : R GStm
destroyed = form (word (spec w.DestroyClaim) ▷ word (sign s.Open) ▷ g.code ▷ destroyed_set)

abbrev pub wrap_of : P (Span → GStm)
wrap_of = word (key k.Wrap) ▷ g.code ▷ nothing (λ x u p. h.Wrap p x)

abbrev pub unwrap_of : P (Span → GStm)
unwrap_of = word (key k.Unwrap) ▷ g.code ▷ nothing (λ x u p. h.Unwrap p x)

abbrev pub wrapped : R GStm
wrapped = form (word (sign s.Annotation) ▷ g.ghost_wrap ▷ word (sign s.Close) ▷ g.semicolon_or_none ▷ nothing (λ z c f p. f p))

-- ---- ghost statements that hold others

-- what isn't a name and begins a left side
abbrev pub other : P Exp
other = below g.GhostOther (λ x. x)

abbrev pub statement : P GStm
statement = below g.GhostStatement (λ x. x)

abbrev pub statements : P (List GStm)
statements = many statement (λ xs. xs)

abbrev pub in_brackets : P Exp
in_brackets = g.inside g.code

abbrev pub some_else : P (Option GStm)
some_else = g.ghost_else ▷ nothing (λ x. Some x)

abbrev pub else_or_none : P (Option GStm)
else_or_none = g.optional g.ghost_else

abbrev pub if_rule : R GStm
if_rule = form (word (key k.If) ▷ in_brackets ▷ below g.GhostBody (λ x. x) ▷ else_or_none ▷ g.semicolon_or_none ▷ nothing (λ z b a x p. g.ghost_if p x a b))

abbrev pub block : R GStm
block = form (word (sign s.BraceOpen) ▷ statements ▷ word (sign s.BraceClose) ▷ nothing (λ c xs o. h.Block o (g.ghosts_of xs)))

-- ---- annotations that hold no statement of code, behind their `_(`

abbrev pub assert_tail : P (Span → Stm)
assert_tail = word (key k.Assert) ▷ g.whole_spec ▷ word (sign s.Close) ▷ nothing (λ c x q p. st.Assert p x)

abbrev pub ghost_tail : P (Span → Stm)
ghost_tail = word (key k.Ghost) ▷ below g.GhostBody (λ x. x) ▷ word (sign s.Close) ▷ nothing (λ c x q p. st.Ghost p x)

abbrev pub wrap_tail : P (Span → Stm)
wrap_tail = word (key k.Wrap) ▷ g.code ▷ word (sign s.Close) ▷ nothing (λ c x q p. st.Wrap p x)

abbrev pub unwrap_tail : P (Span → Stm)
unwrap_tail = word (key k.Unwrap) ▷ g.code ▷ word (sign s.Close) ▷ nothing (λ c x q p. st.Unwrap p x)

abbrev pub invariant_tail : P (Span → Inv)
invariant_tail = g.invariant_tail
