-- What stands behind `_(`, up to its `)`, in each place where an annotation may stand. From the VCC manual; own: which words go where.
use Rattle.std.specs.Prelude.{List}
use Rattle.c_syntax.specs.declared.token.Span.{Span}
use Rattle.c_syntax.specs.declared.token.Keyword.{Keyword}
use Rattle.c_syntax.specs.declared.token.Keyword.TheVariants as k
use Rattle.c_syntax.specs.declared.token.Sign.TheVariants as s
use Rattle.c_syntax.specs.declared.tree.Attribute.{Attribute as Mark}
use Rattle.reader_pieces.specs.declared.tree.Place.{Place}
use Rattle.reader_pieces.specs.declared.tree.Place.TheVariants as places
use Rattle.reader_pieces.specs.declared.tree.Annotation.{Annotation}
use Rattle.reader_pieces.specs.declared.tree.Annotation.TheVariants as trees
use Rattle.c_syntax.specs.Views as views
use Rattle.ebnf.specs.Rules.{below, nothing, by_next, form}
use Rattle.c_syntax.specs.Classes.{key, sign}
use Rattle.c_syntax.specs.Expressions.{Exp}
use Rattle.c_syntax.specs.Ghosts.{GStm}
use Rattle.c_syntax.specs.Statements.{Inv}
use Rattle.c_syntax.specs.Items as i
use Rattle.c_syntax.specs.Grammar.{P, R, ◌▷◌, ClauseOf, GhostBody, word, name, list, attribute, gtype, code, whole_spec, invariant_tail, member_annotation}

-- an annotation, with the place of its `_(`
pub data Annot : Type 0 where
  Attributes : Span → List Mark → Annot
  Invariant : Inv → Annot
  Field : Span → i.FieldTree → Annot
  Parameter : Span → i.Param → Annot
  Clause : i.Clause → Annot
  Assert : Span → Exp → Annot
  Ghost : Span → GStm → Annot
  Wrap : Span → Exp → Annot
  Unwrap : Span → Exp → Annot
  Unwrapping : Span → Exp → Annot
  Atomic : Span → List Exp → Annot
  Argument : Span → Exp → Annot

-- ---- forms, behind `_(`

-- a word, what it is said of, and the end
abbrev pub worded : {A : Type 0} → Keyword → P A → (Span → A → Annot) → P (Span → Annot)
worded w p f = word (key w) ▷ p ▷ word (sign s.Close) ▷ nothing (λ c x q o. f o x)

-- the forms of statements
abbrev pub assert_form : P (Span → Annot)
assert_form = worded k.Assert whole_spec Assert

abbrev pub ghost_form : P (Span → Annot)
ghost_form = worded k.Ghost (below GhostBody (λ x. x)) Ghost

abbrev pub wrap_form : P (Span → Annot)
wrap_form = worded k.Wrap code Wrap

abbrev pub unwrap_form : P (Span → Annot)
unwrap_form = worded k.Unwrap code Unwrap

-- those with a block behind them, without it
abbrev pub unwrapping_form : P (Span → Annot)
unwrapping_form = worded k.Unwrapping code Unwrapping

abbrev pub atomic_form : P (Span → Annot)
atomic_form = worded k.Atomic (list code) Atomic

-- what stands behind the `_(` of a statement
abbrev pub of_statement : P (Span → Annot)
of_statement = by_next assert_form (by_next ghost_form (by_next wrap_form (by_next unwrap_form (by_next unwrapping_form atomic_form))))

-- an invariant of a loop
abbrev pub invariant_form : P (Span → Annot)
invariant_form = invariant_tail ▷ nothing (λ f o. Invariant (f o))

-- behind a `_(` in front of a loop's body
abbrev pub of_loop : P (Span → Annot)
of_loop = by_next invariant_form of_statement

-- behind that of a ghost statement
abbrev pub of_ghost : P (Span → Annot)
of_ghost = by_next wrap_form unwrap_form

-- behind that of a call's ghost argument
abbrev pub argument_form : P (Span → Annot)
argument_form = worded k.Ghost code Argument

-- a member, at the place of its `_(`
abbrev pub of_member : Span → i.Member → Annot
of_member o (i.Field x) = Field o x
of_member o (i.Invariant x) = Invariant x

-- ---- places

-- What stands in a place: a part, which adds nothing to the height of what is in it, or a rule, which adds one level.
pub data Shape : Type 1 where
  flat : P Annot → Shape
  level : R Annot → Shape

-- a form behind its `_(`, with a level of its own
abbrev pub signed : P (Span → Annot) → R Annot
signed p = form (word (sign s.Annotation) ▷ p ▷ nothing (λ f o. f o))

-- attributes of a struct
abbrev pub marks : P Annot
marks = word (sign s.Annotation) ▷ list attribute ▷ word (sign s.Close) ▷ nothing (λ c xs o. Attributes o xs)

-- a ghost parameter, as high as its names
abbrev pub ghost_parameter : P Annot
ghost_parameter = word (sign s.Annotation) ▷ word (key k.Ghost) ▷ gtype ▷ name ▷ word (sign s.Close) ▷ nothing (λ c n ty g o. Parameter o (record { ty = ty.1; name = n }))

-- an invariant or a ghost field of a struct
abbrev pub member : R Annot
member = form (word (sign s.Annotation) ▷ member_annotation ▷ nothing (λ f o. of_member o (f o)))

-- a clause of a contract, whose level is its own
abbrev pub promise : P Annot
promise = below ClauseOf (λ x. Clause x)

-- The annotations of each place, each as high as it is there as part of the grammar.
abbrev pub annotation : Place → Shape
annotation places.Struct = flat marks
annotation places.Member = level member
annotation places.Parameter = flat ghost_parameter
annotation places.Contract = flat promise
annotation places.Statement = level (signed of_statement)
annotation places.Loop = level (signed of_loop)
annotation places.Argument = level (signed argument_form)
annotation places.Ghost = level (signed of_ghost)

-- ---- what the code's annotations stand for

abbrev pub view : Annotation → Annot
view (trees.Attributes o xs) = Attributes o xs.items
view (trees.Invariant x) = Invariant (views.invariant x)
view (trees.Field o x) = Field o (views.field x)
view (trees.Parameter o x) = Parameter o (views.parameter x)
view (trees.Clause x) = Clause (views.clause x)
view (trees.Assert o x) = Assert o (views.exp x)
view (trees.Ghost o x) = Ghost o (views.ghost x)
view (trees.Wrap o x) = Wrap o (views.exp x)
view (trees.Unwrap o x) = Unwrap o (views.exp x)
view (trees.Unwrapping o x) = Unwrapping o (views.exp x)
view (trees.Atomic o xs) = Atomic o (views.exps xs.items)
view (trees.Argument o x) = Argument o (views.exp x)
