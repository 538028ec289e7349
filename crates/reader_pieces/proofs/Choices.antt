-- Which form is meant, by the next token.
use Rattle.std.proofs.Common.{◌≡◌, ◌≢◌, ℕ, nat_le, ◌==◌, Bool, true, false, List, Err, refl, sym, ◌∙◌}
use Rattle.ebnf.specs.Sets.{has, first, low, is_empty}
use Rattle.ebnf.specs.Derives.{next}
use Rattle.ebnf.specs.Reading.{Unexpected, TooDeep, read}
use Rattle.ebnf.specs.Tools.{eq_true}
use Rattle.c_syntax.specs.declared.token.Keyword.TheVariants as k
use Rattle.c_syntax.specs.Classes.{key}
use Rattle.c_syntax.specs.Lexing.{Lexeme}
use Rattle.c_syntax.specs.Language.{language}
use Rattle.reader_expressions.specs.Reading.{part}
use Rattle.reader_pieces.specs.declared.words.Form.{Form}
use Rattle.reader_pieces.specs.declared.words.Form.TheVariants as forms
use Rattle.c_syntax.specs.declared.token.Span.{Span}
use Rattle.ebnf.specs.Rules.{by_next}
use Rattle.c_syntax.specs.Grammar.{P}
use Rattle.reader_assignments.proofs.Chosen.{none_of}
use Rattle.reader_items.proofs.Choices.{or_false, right_read, right_deep, neither_read, both_deep}
use Rattle.reader_pieces.specs.Annotations.{Annot, of_statement, of_loop, of_ghost, invariant_form, assert_form, ghost_form, wrap_form, unwrap_form, unwrapping_form, atomic_form}
use Rattle.reader_pieces.specs.Shapes.{form_of, form_class}

-- ---- words

-- the word of no form is not that of this form
other_word : (c : ℕ) → ((x : Form) → c ≢ form_class x) → (x : Form) → (c == form_class x) ≡ false
other_word c none x = go (c == form_class x) refl
  where
    go : (b : Bool) → (c == form_class x) ≡ b → b ≡ false
    go true e = absurd (none x (eq_true _ _ e))
    go false e = refl

-- the forms behind the first
abbrev beside_assert : P (Span → Annot)
beside_assert = by_next ghost_form (by_next wrap_form (by_next unwrap_form (by_next unwrapping_form atomic_form)))

module _ (room : ℕ) (ts : List Lexeme) where
  -- ---- statements

  pub statement_fits : (x : Form) → next language ts ≡ form_class x → nat_le 1 room ≡ true → part room of_statement ts ≡ part room (form_of x) ts
  unfolding read first low is_empty
  statement_fits forms.Assert e fits = rw e (rw fits refl)
  statement_fits forms.Ghost e fits = rw e (rw fits refl)
  statement_fits forms.Wrap e fits = rw e (rw fits refl)
  statement_fits forms.Unwrap e fits = rw e (rw fits refl)
  statement_fits forms.Unwrapping e fits = rw e (rw fits refl)
  statement_fits forms.Atomic e fits = rw e (rw fits refl)

  pub statement_high : (x : Form) → next language ts ≡ form_class x → nat_le 1 room ≡ false → part room of_statement ts ≡ Err (TooDeep, ts)
  unfolding read first low is_empty
  statement_high forms.Assert e fits = rw e (rw fits refl)
  statement_high forms.Ghost e fits = rw e (rw fits refl)
  statement_high forms.Wrap e fits = rw e (rw fits refl)
  statement_high forms.Unwrap e fits = rw e (rw fits refl)
  statement_high forms.Unwrapping e fits = rw e (rw fits refl)
  statement_high forms.Atomic e fits = rw e (rw fits refl)

  pub statement_none : ((x : Form) → next language ts ≢ form_class x) → part room of_statement ts ≡ Err (Unexpected, ts)
  unfolding read first is_empty
  statement_none none =
      rw (other_word (next language ts) none forms.Assert, other_word (next language ts) none forms.Ghost, other_word (next language ts) none forms.Wrap, other_word (next language ts) none forms.Unwrap, other_word (next language ts) none forms.Unwrapping, other_word (next language ts) none forms.Atomic) refl

  -- ---- loops

  no_invariant : (next language ts == key k.Invariant) ≡ false → has (first language invariant_form) (next language ts) ≡ false
  unfolding first is_empty
  no_invariant h = or_false _ _ h

  some_form : is_empty language of_statement ≡ false
  unfolding is_empty
  some_form = refl

  some_other : is_empty language beside_assert ≡ false
  unfolding is_empty
  some_other = refl

  low_form : {b : Bool} → nat_le 1 room ≡ b → nat_le (low language of_statement) room ≡ b
  unfolding low
  low_form e = e

  low_first : {b : Bool} → nat_le 1 room ≡ b → nat_le (low language assert_form) room ≡ b
  unfolding low
  low_first e = e

  low_other : {b : Bool} → nat_le 1 room ≡ b → nat_le (low language beside_assert) room ≡ b
  unfolding low
  low_other e = e

  pub invariant_fits : (next language ts == key k.Invariant) ≡ true → nat_le 1 room ≡ true → part room of_loop ts ≡ part room invariant_form ts
  unfolding read first low is_empty
  invariant_fits h fits = rw h (rw fits refl)

  pub invariant_high : (next language ts == key k.Invariant) ≡ true → nat_le 1 room ≡ false → part room of_loop ts ≡ Err (TooDeep, ts)
  unfolding read first low is_empty
  invariant_high h fits = rw h (rw fits refl)

  -- where no invariant stands, the form of a statement does
  pub beside_invariant : (next language ts == key k.Invariant) ≡ false → part room of_loop ts ≡ part room of_statement ts
  beside_invariant n = go (has (first language of_statement) (next language ts)) (nat_le 1 room) refl refl
    where
      go : (b c : Bool) → has (first language of_statement) (next language ts) ≡ b → nat_le 1 room ≡ c → part room of_loop ts ≡ part room of_statement ts
      go false c h e = none_of invariant_form of_statement room ts (no_invariant n) h some_form ∙ sym (neither_read assert_form beside_assert room ts h some_other)
      go true true h e = right_read invariant_form of_statement room ts (no_invariant n) h (low_form e)
      go true false h e = right_deep invariant_form of_statement room ts (no_invariant n) h (low_form e) ∙ sym (both_deep assert_form beside_assert room ts h (low_first e) (low_other e))

  -- ---- ghost statements

  pub wrap_fits : (next language ts == key k.Wrap) ≡ true → nat_le 1 room ≡ true → part room of_ghost ts ≡ part room wrap_form ts
  unfolding read first low is_empty
  wrap_fits h fits = rw h (rw fits refl)

  pub wrap_high : (next language ts == key k.Wrap) ≡ true → nat_le 1 room ≡ false → part room of_ghost ts ≡ Err (TooDeep, ts)
  unfolding read first low is_empty
  wrap_high h fits = rw h (rw fits refl)

  pub unwrap_fits : (next language ts == key k.Wrap) ≡ false → (next language ts == key k.Unwrap) ≡ true → nat_le 1 room ≡ true → part room of_ghost ts ≡ part room unwrap_form ts
  unfolding read first low is_empty
  unwrap_fits n h fits = rw n (rw h (rw fits refl))

  pub unwrap_high : (next language ts == key k.Wrap) ≡ false → (next language ts == key k.Unwrap) ≡ true → nat_le 1 room ≡ false → part room of_ghost ts ≡ Err (TooDeep, ts)
  unfolding read first low is_empty
  unwrap_high n h fits = rw n (rw h (rw fits refl))

  pub no_wrap : (next language ts == key k.Wrap) ≡ false → (next language ts == key k.Unwrap) ≡ false → part room of_ghost ts ≡ Err (Unexpected, ts)
  unfolding read first low is_empty
  no_wrap n h = rw n (rw h refl)
