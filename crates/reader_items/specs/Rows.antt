-- Rows of the grammar, as the reader goes through them.
use Rattle.std.specs.Prelude.{Bool, List, [], ◌∷◌, Ok}
use Rattle.ebnf.specs.Rules.{token, below, nothing, many, form}
use Rattle.ebnf.specs.Reading.{Out, on}
use Rattle.c_syntax.specs.declared.token.Span.{Span}
use Rattle.c_syntax.specs.declared.token.Keyword.{Keyword}
use Rattle.c_syntax.specs.declared.token.Keyword.TheVariants as k
use Rattle.c_syntax.specs.declared.token.SpecWord.TheVariants as w
use Rattle.c_syntax.specs.declared.token.Sign.TheVariants as s
use Rattle.c_syntax.specs.declared.tree.Attribute.{Attribute}
use Rattle.c_syntax.specs.declared.tree.Condition.{Condition}
use Rattle.c_syntax.specs.declared.tree.Condition.TheVariants as conditions
use Rattle.c_syntax.specs.Classes.{key, spec, sign}
use Rattle.c_syntax.specs.Language.{language}
use Rattle.c_syntax.specs.Expressions.{Exp}
use Rattle.c_syntax.specs.Items as i
use Rattle.c_syntax.specs.Items.{Written, Clause, Param, Member}
use Rattle.c_syntax.specs.Grammar as g
use Rattle.c_syntax.specs.Grammar.{P, R, ◌▷◌, word, name}
use Rattle.reader_expressions.specs.Lists.{behind_comma}

-- what is read, as a list of one
abbrev pub alone : {A : Type 0} → Out language A → Out language (List A)
alone out = on language out (λ x h rest. Ok (x ∷ [], h, rest))

-- ---- what a function may write

-- a whole spec in brackets
abbrev pub inside_spec : P Exp
inside_spec = g.inside g.whole_spec

-- `\span` and an object
abbrev pub span_of : R Written
span_of = form (word (spec w.Span) ▷ inside_spec ▷ nothing (λ x p. i.SpanOf p x))

-- `\extent` and an object
abbrev pub extent_of : R Written
extent_of = form (word (spec w.Extent) ▷ inside_spec ▷ nothing (λ x p. i.ExtentOf p x))

-- one of the two, as what is written
abbrev pub reach : P Written
reach = below g.WritesOf (λ x. x)

-- an object alone, as what is written
abbrev pub object : P Written
object = g.whole_spec ▷ nothing (λ x. i.Thing x)

-- a comma and a further item
abbrev pub further_written : P Written
further_written = behind_comma g.written

-- the items of a writes list
abbrev pub all_written : P (List Written)
all_written = g.list g.written

-- ---- clauses

-- the word of a condition
abbrev pub condition_word : Condition → Keyword
condition_word conditions.Requires = k.Requires
condition_word conditions.Ensures = k.Ensures
condition_word conditions.Maintains = k.Maintains

-- the word of a condition, and the property
abbrev pub condition : Condition → P (Span → Clause)
condition x = g.condition (key (condition_word x)) x

-- `writes` and a list
abbrev pub writes : P (Span → Clause)
writes = word (key k.Writes) ▷ all_written ▷ nothing (λ xs q p. i.Writes p xs)

-- one clause of a contract
abbrev pub one_clause : P Clause
one_clause = below g.ClauseOf (λ x. x)

-- as many clauses as there are
abbrev pub clauses : P (List Clause)
clauses = many one_clause (λ xs. xs)

-- ---- parameters

-- `void` in place of parameters
abbrev pub void_parameters : P (List Param)
void_parameters = word (key k.Void) ▷ nothing (λ v. [])

-- a comma and a further parameter
abbrev pub further_parameter : P Param
further_parameter = behind_comma g.param

-- one parameter or more
abbrev pub all_parameters : P (List Param)
all_parameters = g.list g.param

-- a ghost parameter behind `_(` and `ghost`
abbrev pub ghost_parameter_tail : P (Span → Span → Param)
ghost_parameter_tail = g.gtype ▷ name ▷ word (sign s.Close) ▷ nothing (λ c n ty gh a. record { ty = ty.1; name = n })

-- as many ghost parameters as there are
abbrev pub ghost_parameters : P (List Param)
ghost_parameters = many g.ghost_param (λ xs. xs)

-- ---- attributes

-- the word of an attribute
abbrev pub attribute_by : Keyword → Attribute → P Attribute
attribute_by x a = token (key x) 0 (λ y. a)

-- a comma and a further attribute
abbrev pub further_attribute : P Attribute
further_attribute = behind_comma g.attribute

-- the attributes of one list
abbrev pub all_attributes : P (List Attribute)
all_attributes = g.list g.attribute

-- as many lists of attributes as there are, as one
abbrev pub more_lists : P (List Attribute)
more_lists = many g.attribute_list g.concat

-- a list of attributes and any further ones, as one
abbrev pub attributes : P (List Attribute)
attributes = g.attribute_list ▷ many g.attribute_list (λ xs. xs) ▷ nothing (λ more one. g.concat (one ∷ more))

-- ---- members

-- `volatile`, if it is there
abbrev pub volatile : P Bool
volatile = g.flag (key k.Volatile)

-- an invariant, as a member
abbrev pub invariant_member : P (Span → Member)
invariant_member = g.invariant_tail ▷ nothing (λ f p. i.Invariant (f p))

-- a field, as a member
abbrev pub plain_member : R Member
plain_member = form g.member_field

-- an invariant or a ghost field, as a member
abbrev pub annotated_member : R Member
annotated_member = form (word (sign s.Annotation) ▷ g.member_annotation ▷ nothing (λ f p. f p))

-- one member of a struct
abbrev pub one_member : P Member
one_member = below g.MemberOf (λ x. x)

-- as many members as there are
abbrev pub members : P (List Member)
members = many one_member (λ xs. xs)
