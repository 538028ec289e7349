-- Whether there are parameters, by the next token.
use Rattle.std.proofs.Common.{◌≡◌, ℕ, nat_le, Bool, true, false, List, [], Ok, Err, refl, ◌∙◌}
use Rattle.std.specs.Prelude.{◌==◌}
use Rattle.ebnf.specs.Rules.{nothing}
use Rattle.ebnf.specs.Sets.{has, first, low, is_empty, is_predictive, more}
use Rattle.ebnf.specs.Derives.{next}
use Rattle.ebnf.specs.Reading.{TooDeep, read}
use Rattle.c_syntax.specs.declared.token.Keyword.TheVariants as k
use Rattle.c_syntax.specs.declared.token.Sign.TheVariants as s
use Rattle.c_syntax.specs.Classes.{key, sign}
use Rattle.c_syntax.specs.Items.{Param}
use Rattle.c_syntax.specs.Lexing.{Lexeme}
use Rattle.c_syntax.specs.Language.{language}
use Rattle.c_syntax.specs.Grammar as g
use Rattle.c_syntax.specs.Grammar.{P}
use Rattle.reader_expressions.specs.Reading.{part}
use Rattle.reader_assignments.proofs.Listed.{fits_zero}
use Rattle.reader_assignments.proofs.Parts.{nothing_read}
use Rattle.reader_assignments.proofs.Repeats.{one_class}
use Rattle.reader_items.specs.Rows.{void_parameters, further_parameter, all_parameters}
use Rattle.reader_items.proofs.Choices.{or_false, left_read, left_deep, right_read, empty_read}

-- parameters, or none
abbrev maybe_parameters : P (List Param)
maybe_parameters = g.list_or_none g.param

module _ (room : ℕ) (ts : List Lexeme) where
  -- `void` in their place
  pub void_read : (next language ts == key k.Void) ≡ true → part room g.params ts ≡ part 0 void_parameters ts
  unfolding first is_empty low read
  void_read h = left_read void_parameters maybe_parameters room ts (or_false _ _ h) (fits_zero room)

  -- a list of parameters begins as one does
  begins_all : (b : Bool) → has (first language g.param) (next language ts) ≡ b → has (first language all_parameters) (next language ts) ≡ b
  unfolding first is_empty
  begins_all b h = h

  -- and so does one that may be empty
  begins_maybe : has (first language g.param) (next language ts) ≡ true → has (first language maybe_parameters) (next language ts) ≡ true
  unfolding first is_empty
  begins_maybe h = h

  -- no `void`, but a parameter
  to_maybe : (next language ts == key k.Void) ≡ false → has (first language g.param) (next language ts) ≡ true → part room g.params ts ≡ part room maybe_parameters ts
  unfolding first is_empty low
  to_maybe n h = right_read void_parameters maybe_parameters room ts (or_false _ _ n) (begins_maybe h) (fits_zero room)

  -- some parameters
  pub some_read : (next language ts == key k.Void) ≡ false → has (first language g.param) (next language ts) ≡ true → nat_le 1 room ≡ true → part room g.params ts ≡ part room all_parameters ts
  unfolding low
  some_read n h fits = to_maybe n h ∙ left_read all_parameters (nothing []) room ts (begins_all true h) fits

  -- some parameters, with no room for one
  pub some_deep : (next language ts == key k.Void) ≡ false → has (first language g.param) (next language ts) ≡ true → nat_le 1 room ≡ false → part room g.params ts ≡ Err (TooDeep, ts)
  unfolding low
  some_deep n h fits = to_maybe n h ∙ left_deep all_parameters (nothing []) room ts (begins_all true h) fits

  -- no parameters
  pub none_read : (next language ts == key k.Void) ≡ false → has (first language g.param) (next language ts) ≡ false → part room g.params ts ≡ Ok ([], 0, ts)
  unfolding first is_empty low
  none_read n h = empty_read void_parameters maybe_parameters room ts (or_false _ _ n) refl (fits_zero room) ∙ empty_read all_parameters (nothing []) room ts (begins_all false h) refl (fits_zero room) ∙ nothing_read room [] ts

-- one token tells how a further parameter goes on
pub fine_parameter : is_predictive language further_parameter ≡ true
unfolding is_predictive is_empty more first low
fine_parameter = refl

-- ---- ghost parameters

-- a ghost parameter begins with `_(`
pub begins_ghost : (c : ℕ) → has (first language g.ghost_param) c ≡ (c == sign s.Annotation)
unfolding first is_empty
begins_ghost c = one_class (sign s.Annotation) c

-- one token tells how it goes on
pub fine_ghost : is_predictive language g.ghost_param ≡ true
unfolding is_predictive is_empty more first low
fine_ghost = refl

-- it isn't empty
pub some_ghost : is_empty language g.ghost_param ≡ false
unfolding is_empty
some_ghost = refl
