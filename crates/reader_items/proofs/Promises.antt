-- Which clause is meant, by the next token.
use Rattle.std.proofs.Common.{◌≡◌, ◌≤◌, ℕ, nat_le, Bool, true, false, List, Err, refl, ◌∙◌}
use Rattle.std.specs.Prelude.{◌==◌}
use Rattle.ebnf.specs.Rules.{by_next}
use Rattle.ebnf.specs.Sets.{has, first, low, is_empty, is_predictive}
use Rattle.ebnf.specs.Derives.{next}
use Rattle.ebnf.specs.Reading.{Unexpected, TooDeep}
use Rattle.ebnf.specs.Tools.{true_le}
use Rattle.c_syntax.specs.declared.token.Span.{Span}
use Rattle.c_syntax.specs.declared.token.Keyword.TheVariants as k
use Rattle.c_syntax.specs.declared.token.Sign.TheVariants as s
use Rattle.c_syntax.specs.declared.tree.Condition.{Condition}
use Rattle.c_syntax.specs.declared.tree.Condition.TheVariants as conditions
use Rattle.c_syntax.specs.Classes.{key, sign}
use Rattle.c_syntax.specs.Items.{Clause}
use Rattle.c_syntax.specs.Lexing.{Lexeme}
use Rattle.c_syntax.specs.Language.{language}
use Rattle.c_syntax.specs.Grammar as g
use Rattle.c_syntax.specs.Grammar.{P}
use Rattle.reader_expressions.specs.Reading.{part}
use Rattle.reader_assignments.proofs.Repeats.{one_class}
use Rattle.reader_items.specs.Rows.{condition, condition_word, writes, one_clause}
use Rattle.reader_items.proofs.Choices.{or_false, left_read, right_read, on_right, neither_read, both_deep}

-- what the caller has to show
abbrev required : P (Span → Clause)
required = condition conditions.Requires

-- what the function ensures
abbrev ensured : P (Span → Clause)
ensured = condition conditions.Ensures

-- what is both
abbrev maintained : P (Span → Clause)
maintained = condition conditions.Maintains

-- behind `requires` and `ensures`
abbrev from_maintained : P (Span → Clause)
from_maintained = by_next maintained writes

-- behind `requires`
abbrev from_ensured : P (Span → Clause)
from_ensured = by_next ensured from_maintained

module _ (room : ℕ) (ts : List Lexeme) where
  -- a condition begins with its word
  begins : (x : Condition) (b : Bool) → (next language ts == key (condition_word x)) ≡ b → has (first language (condition x)) (next language ts) ≡ b
  unfolding first is_empty
  begins x b h = or_false _ _ h

  -- `requires`
  pub requires_read : (next language ts == key k.Requires) ≡ true → 1 ≤ room → part room g.clause_tail ts ≡ part room required ts
  unfolding low
  requires_read h le = left_read required from_ensured room ts (begins conditions.Requires true h) (true_le 1 room le)

  -- a clause that begins otherwise than with `requires`
  behind_requires : (next language ts == key k.Requires) ≡ false → has (first language g.clause_tail) (next language ts) ≡ true → has (first language from_ensured) (next language ts) ≡ true
  behind_requires n h = on_right required from_ensured room ts h (begins conditions.Requires false n)

  -- is one of the others
  to_ensured : (next language ts == key k.Requires) ≡ false → has (first language g.clause_tail) (next language ts) ≡ true → 1 ≤ room → part room g.clause_tail ts ≡ part room from_ensured ts
  unfolding low
  to_ensured n h le = right_read required from_ensured room ts (begins conditions.Requires false n) (behind_requires n h) (true_le 1 room le)

  -- `ensures`
  pub ensures_read : (next language ts == key k.Requires) ≡ false → (next language ts == key k.Ensures) ≡ true → has (first language g.clause_tail) (next language ts) ≡ true → 1 ≤ room → part room g.clause_tail ts ≡ part room ensured ts
  unfolding low
  ensures_read n h b le = to_ensured n b le ∙ left_read ensured from_maintained room ts (begins conditions.Ensures true h) (true_le 1 room le)

  -- a clause that begins with neither of the two
  behind_ensures : (next language ts == key k.Requires) ≡ false → (next language ts == key k.Ensures) ≡ false → has (first language g.clause_tail) (next language ts) ≡ true → has (first language from_maintained) (next language ts) ≡ true
  behind_ensures n m h = on_right ensured from_maintained room ts (behind_requires n h) (begins conditions.Ensures false m)

  -- is one of the last two
  to_maintained : (next language ts == key k.Requires) ≡ false → (next language ts == key k.Ensures) ≡ false → has (first language g.clause_tail) (next language ts) ≡ true → 1 ≤ room → part room g.clause_tail ts ≡ part room from_maintained ts
  unfolding low
  to_maintained n m h le = to_ensured n h le ∙ right_read ensured from_maintained room ts (begins conditions.Ensures false m) (behind_ensures n m h) (true_le 1 room le)

  -- `maintains`
  pub maintains_read : (next language ts == key k.Requires) ≡ false → (next language ts == key k.Ensures) ≡ false → (next language ts == key k.Maintains) ≡ true → has (first language g.clause_tail) (next language ts) ≡ true → 1 ≤ room → part room g.clause_tail ts ≡ part room maintained ts
  unfolding low
  maintains_read n m h b le = to_maintained n m b le ∙ left_read maintained writes room ts (begins conditions.Maintains true h) (true_le 1 room le)

  -- `writes`
  pub writes_read : (next language ts == key k.Requires) ≡ false → (next language ts == key k.Ensures) ≡ false → (next language ts == key k.Maintains) ≡ false → has (first language g.clause_tail) (next language ts) ≡ true → 1 ≤ room → part room g.clause_tail ts ≡ part room writes ts
  unfolding low
  writes_read n m o h le = to_maintained n m h le ∙ right_read maintained writes room ts (begins conditions.Maintains false o) (on_right maintained writes room ts (behind_ensures n m h) (begins conditions.Maintains false o)) (true_le 1 room le)

  -- no clause
  pub no_promise : has (first language g.clause_tail) (next language ts) ≡ false → part room g.clause_tail ts ≡ Err (Unexpected, ts)
  unfolding is_empty
  no_promise h = neither_read required from_ensured room ts h refl

  -- a clause, with no room for one
  pub promise_deep : has (first language g.clause_tail) (next language ts) ≡ true → nat_le 1 room ≡ false → part room g.clause_tail ts ≡ Err (TooDeep, ts)
  unfolding low
  promise_deep h fits = both_deep required from_ensured room ts h fits fits

-- ---- clauses one behind the other

-- a clause begins with `_(`
pub begins_clause : (c : ℕ) → has (first language one_clause) c ≡ (c == sign s.Annotation)
unfolding first
begins_clause c = one_class (sign s.Annotation) c

-- one token tells how it goes on
pub fine_clause : is_predictive language one_clause ≡ true
unfolding is_predictive
fine_clause = refl

-- it isn't empty
pub some_clause : is_empty language one_clause ≡ false
unfolding is_empty
some_clause = refl
