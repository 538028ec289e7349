-- How annotations are read, and how high they are at least.
use Rattle.std.specs.Prelude.{◌≡◌, ℕ, ◌-◌, List, Ok}
use Rattle.ebnf.specs.Reading.{Out, on}
use Rattle.ebnf.specs.Sets.{low, low_rule}
use Rattle.c_syntax.specs.Lexing.{Lexeme}
use Rattle.c_syntax.specs.Language.{language}
use Rattle.reader_expressions.specs.Reading.{part, rule_at}
use Rattle.c_syntax.specs.declared.token.Span.{Span}
use Rattle.c_syntax.specs.Grammar.{P}
use Rattle.c_syntax.specs.declared.token.Keyword.TheVariants as k
use Rattle.c_syntax.specs.Classes.{key}
use Rattle.reader_pieces.specs.declared.words.Form.{Form}
use Rattle.reader_pieces.specs.declared.words.Form.TheVariants as forms
use Rattle.reader_pieces.specs.Annotations.{Annot, Shape, flat, level, assert_form, ghost_form, wrap_form, unwrap_form, unwrapping_form, atomic_form}

-- the least height
abbrev pub least_of : Shape → ℕ
least_of (flat p) = low language p
least_of (level r) = low_rule language r

-- what the grammar reads of the tokens, no higher than room
abbrev pub shape_at : ℕ → Shape → List Lexeme → Out language Annot
shape_at room (flat p) ts = part room p ts
shape_at room (level r) ts = rule_at (room - 1) r ts

-- what is read as a function of the place of a `_(`, at that place
abbrev pub at_span : {A : Type 0} → Span → Out language (Span → A) → Out language A
at_span o out = on language out (λ f i rest. Ok (f o, i, rest))

-- the form of a statement
abbrev pub form_of : Form → P (Span → Annot)
form_of forms.Assert = assert_form
form_of forms.Ghost = ghost_form
form_of forms.Wrap = wrap_form
form_of forms.Unwrap = unwrap_form
form_of forms.Unwrapping = unwrapping_form
form_of forms.Atomic = atomic_form

-- its word
abbrev pub form_class : Form → ℕ
form_class forms.Assert = key k.Assert
form_class forms.Ghost = key k.Ghost
form_class forms.Wrap = key k.Wrap
form_class forms.Unwrap = key k.Unwrap
form_class forms.Unwrapping = key k.Unwrapping
form_class forms.Atomic = key k.Atomic
