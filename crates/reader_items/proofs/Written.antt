-- Which item of a writes list is meant, by the next token.
use Rattle.std.proofs.Common.{◌≡◌, ℕ, nat_le, Bool, true, false, List, Err, refl}
use Rattle.std.specs.Prelude.{◌==◌}
use Rattle.ebnf.specs.Sets.{has, first, first_rule, low, low_rule, is_empty, is_predictive, more}
use Rattle.ebnf.specs.Derives.{next}
use Rattle.ebnf.specs.Reading.{Unexpected, TooDeep}
use Rattle.c_syntax.specs.declared.token.SpecWord.TheVariants as w
use Rattle.c_syntax.specs.Classes.{spec}
use Rattle.c_syntax.specs.Lexing.{Lexeme}
use Rattle.c_syntax.specs.Language.{language}
use Rattle.c_syntax.specs.Grammar as g
use Rattle.reader_expressions.specs.Reading.{part, rule_at}
use Rattle.reader_expressions.proofs.Primaries.{fits_two}
use Rattle.reader_items.specs.Rows.{span_of, extent_of, reach, object, further_written}
use Rattle.reader_items.proofs.Choices.{or_false, left_read, left_deep, right_read, right_deep, rule_left, rule_left_deep, rule_right, rule_right_deep, rule_neither}
use Rattle.reader_assignments.proofs.Chosen.{none_of}

module _ (room : ℕ) (ts : List Lexeme) where
  -- `\span`
  pub span_read : (next language ts == spec w.Span) ≡ true → nat_le 1 room ≡ true → rule_at room g.writes_of ts ≡ rule_at room span_of ts
  unfolding first first_rule is_empty low low_rule
  span_read h fits = rule_left span_of extent_of room ts (or_false _ _ h) (fits_two room true fits)

  -- `\span`, with no room for its object
  pub span_deep : (next language ts == spec w.Span) ≡ true → nat_le 1 room ≡ false → rule_at room g.writes_of ts ≡ Err (TooDeep, ts)
  unfolding first first_rule is_empty low low_rule
  span_deep h fits = rule_left_deep span_of extent_of room ts (or_false _ _ h) (fits_two room false fits)

  -- `\extent`
  pub extent_read : (next language ts == spec w.Span) ≡ false → (next language ts == spec w.Extent) ≡ true → nat_le 1 room ≡ true → rule_at room g.writes_of ts ≡ rule_at room extent_of ts
  unfolding first first_rule is_empty low low_rule
  extent_read n h fits = rule_right span_of extent_of room ts (or_false _ _ n) (or_false _ _ h) (fits_two room true fits)

  -- `\extent`, with no room for its object
  pub extent_deep : (next language ts == spec w.Span) ≡ false → (next language ts == spec w.Extent) ≡ true → nat_le 1 room ≡ false → rule_at room g.writes_of ts ≡ Err (TooDeep, ts)
  unfolding first first_rule is_empty low low_rule
  extent_deep n h fits = rule_right_deep span_of extent_of room ts (or_false _ _ n) (or_false _ _ h) (fits_two room false fits)

  -- neither of the two
  pub no_reach : (next language ts == spec w.Span) ≡ false → (next language ts == spec w.Extent) ≡ false → rule_at room g.writes_of ts ≡ Err (Unexpected, ts)
  unfolding first first_rule is_empty
  no_reach n h = rule_neither span_of extent_of room ts (or_false _ _ n) (or_false _ _ h)

  -- ---- with objects alone

  -- one of the two
  pub reach_read : has (first language reach) (next language ts) ≡ true → nat_le 2 room ≡ true → part room g.written ts ≡ part room reach ts
  unfolding low
  reach_read h fits = left_read reach object room ts h fits

  -- one of the two, with no room for it
  pub reach_deep : has (first language reach) (next language ts) ≡ true → nat_le 2 room ≡ false → part room g.written ts ≡ Err (TooDeep, ts)
  unfolding low
  reach_deep h fits = left_deep reach object room ts h fits

  -- an object alone begins as a property does
  object_begins : (b : Bool) → has (first language g.whole_spec) (next language ts) ≡ b → has (first language object) (next language ts) ≡ b
  unfolding first is_empty
  object_begins b h = h

  -- an object alone
  pub object_read : has (first language reach) (next language ts) ≡ false → has (first language g.whole_spec) (next language ts) ≡ true → nat_le 1 room ≡ true → part room g.written ts ≡ part room object ts
  unfolding low
  object_read n h fits = right_read reach object room ts n (object_begins true h) fits

  -- an object alone, with no room for one
  pub object_deep : has (first language reach) (next language ts) ≡ false → has (first language g.whole_spec) (next language ts) ≡ true → nat_le 1 room ≡ false → part room g.written ts ≡ Err (TooDeep, ts)
  unfolding low
  object_deep n h fits = right_deep reach object room ts n (object_begins true h) fits

  -- no item
  pub nothing_written : has (first language reach) (next language ts) ≡ false → has (first language g.whole_spec) (next language ts) ≡ false → part room g.written ts ≡ Err (Unexpected, ts)
  unfolding is_empty
  nothing_written n h = none_of reach object room ts n (object_begins false h) refl

-- one token tells how a further item goes on
pub fine_written : is_predictive language further_written ≡ true
unfolding is_predictive is_empty more first low
fine_written = refl
