-- Which member is meant, by the next token.
use Rattle.std.proofs.Common.{◌≡◌, ℕ, nat_le, Bool, true, false, List, Err, refl}
use Rattle.std.specs.Prelude.{◌==◌}
use Rattle.ebnf.specs.Sets.{has, first, first_rule, low, low_rule, is_empty, is_predictive}
use Rattle.ebnf.specs.Derives.{next}
use Rattle.ebnf.specs.Reading.{Unexpected, TooDeep}
use Rattle.c_syntax.specs.declared.token.Keyword.TheVariants as k
use Rattle.c_syntax.specs.declared.token.Sign.TheVariants as s
use Rattle.c_syntax.specs.Classes.{key, sign}
use Rattle.c_syntax.specs.Lexing.{Lexeme}
use Rattle.c_syntax.specs.Language.{language}
use Rattle.c_syntax.specs.Grammar as g
use Rattle.reader_expressions.specs.Reading.{part, rule_at}
use Rattle.reader_expressions.proofs.Primaries.{fits_one}
use Rattle.reader_assignments.proofs.Listed.{fits_zero}
use Rattle.reader_assignments.proofs.Chosen.{none_of}
use Rattle.reader_items.specs.Rows.{invariant_member, plain_member, annotated_member, one_member}
use Rattle.reader_items.proofs.Choices.{or_false, left_read, left_deep, right_read, rule_left, rule_right, rule_neither}

module _ (room : ℕ) (ts : List Lexeme) where
  -- an invariant
  pub invariant_read : (next language ts == key k.Invariant) ≡ true → nat_le 1 room ≡ true → part room g.member_annotation ts ≡ part room invariant_member ts
  unfolding first is_empty low
  invariant_read h fits = left_read invariant_member g.ghost_field room ts (or_false _ _ h) fits

  -- an invariant, with no room for one
  pub invariant_deep : (next language ts == key k.Invariant) ≡ true → nat_le 1 room ≡ false → part room g.member_annotation ts ≡ Err (TooDeep, ts)
  unfolding first is_empty low
  invariant_deep h fits = left_deep invariant_member g.ghost_field room ts (or_false _ _ h) fits

  -- a ghost field
  pub ghost_read : (next language ts == key k.Invariant) ≡ false → (next language ts == key k.Ghost) ≡ true → part room g.member_annotation ts ≡ part room g.ghost_field ts
  unfolding first is_empty low
  ghost_read n h = right_read invariant_member g.ghost_field room ts (or_false _ _ n) (or_false _ _ h) (fits_zero room)

  -- neither of the two
  pub no_annotation : (next language ts == key k.Invariant) ≡ false → (next language ts == key k.Ghost) ≡ false → part room g.member_annotation ts ≡ Err (Unexpected, ts)
  unfolding first is_empty
  no_annotation n h = none_of invariant_member g.ghost_field room ts (or_false _ _ n) (or_false _ _ h) refl

  -- what begins a field begins its rule
  begins_plain : (b : Bool) → has (first language g.member_field) (next language ts) ≡ b → has (first_rule language plain_member) (next language ts) ≡ b
  unfolding first_rule
  begins_plain b h = h

  -- the other members begin with `_(`
  begins_annotated : (b : Bool) → (next language ts == sign s.Annotation) ≡ b → has (first_rule language annotated_member) (next language ts) ≡ b
  unfolding first_rule first is_empty
  begins_annotated b h = or_false _ _ h

  -- a field
  pub plain_read : has (first language g.member_field) (next language ts) ≡ true → rule_at room g.member_of ts ≡ rule_at room plain_member ts
  unfolding low low_rule
  plain_read h = rule_left plain_member annotated_member room ts (begins_plain true h) (fits_one room)

  -- a member behind `_(`
  pub annotated_read : has (first language g.member_field) (next language ts) ≡ false → (next language ts == sign s.Annotation) ≡ true → rule_at room g.member_of ts ≡ rule_at room annotated_member ts
  unfolding low low_rule
  annotated_read n h = rule_right plain_member annotated_member room ts (begins_plain false n) (begins_annotated true h) (fits_one room)

  -- no member
  pub no_member : has (first language g.member_field) (next language ts) ≡ false → (next language ts == sign s.Annotation) ≡ false → rule_at room g.member_of ts ≡ Err (Unexpected, ts)
  no_member n h = rule_neither plain_member annotated_member room ts (begins_plain false n) (begins_annotated false h)

-- one token tells how a member goes on
pub fine_member : is_predictive language one_member ≡ true
unfolding is_predictive
fine_member = refl

-- a member isn't empty
pub some_member : is_empty language one_member ≡ false
unfolding is_empty
some_member = refl
