-- Choices by the next token.
use Rattle.std.proofs.Common.{◌≡◌, ⊎_elim, ℕ, suc, nat_le, Bool, true, false, List, Err, refl, ◌∙◌}
use Rattle.std.specs.Prelude.{◌||◌}
use Rattle.ebnf.specs.Rules.{by_next, pick}
use Rattle.ebnf.specs.Sets.{has, first, first_rule, low, low_rule, is_empty}
use Rattle.ebnf.specs.Derives.{next}
use Rattle.ebnf.specs.Tools.{true_not_false, has_either, hasnt_left, hasnt_right}
use Rattle.ebnf.specs.Reading.{Unexpected, TooDeep, read, read_rule}
use Rattle.c_syntax.specs.Lexing.{Lexeme}
use Rattle.c_syntax.specs.Language.{language}
use Rattle.c_syntax.specs.Grammar.{P, R}
use Rattle.reader_expressions.specs.Reading.{part, rule_at}
use Rattle.reader_assignments.proofs.Chosen.{first_of, other_of, none_of, entered_fits, entered_deep}

-- a test, with nothing beside it
pub or_false : (b c : Bool) → b ≡ c → (b || false) ≡ c
or_false true c e = e
or_false false c e = e

-- ---- between two parts

module _ {A : Type 0} (p q : P A) (room : ℕ) (ts : List Lexeme) where
  -- the first part is meant, and there is room
  pub left_read : has (first language p) (next language ts) ≡ true → nat_le (low language p) room ≡ true → part room (by_next p q) ts ≡ part room p ts
  left_read h fits = first_of p q room ts h ∙ entered_fits p room ts fits

  -- the first part is meant, and there is no room
  pub left_deep : has (first language p) (next language ts) ≡ true → nat_le (low language p) room ≡ false → part room (by_next p q) ts ≡ Err (TooDeep, ts)
  left_deep h fits = first_of p q room ts h ∙ entered_deep p room ts fits

  -- the second part is meant, and there is room
  pub right_read : has (first language p) (next language ts) ≡ false → has (first language q) (next language ts) ≡ true → nat_le (low language q) room ≡ true → part room (by_next p q) ts ≡ part room q ts
  right_read h k fits = other_of p q room ts h k ∙ entered_fits q room ts fits

  -- the second part is meant, and there is no room
  pub right_deep : has (first language p) (next language ts) ≡ false → has (first language q) (next language ts) ≡ true → nat_le (low language q) room ≡ false → part room (by_next p q) ts ≡ Err (TooDeep, ts)
  right_deep h k fits = other_of p q room ts h k ∙ entered_deep q room ts fits

  -- what begins the choice, and not the first of the two, begins the second
  pub on_right : has (first language (by_next p q)) (next language ts) ≡ true → has (first language p) (next language ts) ≡ false → has (first language q) (next language ts) ≡ true
  unfolding first
  on_right h n = ⊎_elim (λ a. absurd (true_not_false _ a n)) (λ a. a) (has_either (first language p) (first language q) (next language ts) h)

  -- neither is meant
  pub neither_read : has (first language (by_next p q)) (next language ts) ≡ false → is_empty language q ≡ false → part room (by_next p q) ts ≡ Err (Unexpected, ts)
  unfolding first
  neither_read h e = none_of p q room ts (hasnt_left (first language p) (first language q) _ h) (hasnt_right (first language p) (first language q) _ h) e

  -- where nothing has to stand
  pub empty_read : has (first language p) (next language ts) ≡ false → is_empty language q ≡ true → nat_le (low language q) room ≡ true → part room (by_next p q) ts ≡ part room q ts
  unfolding read
  empty_read h e fits = rw h (rw e (rw fits refl))

  -- no room for either
  pub both_deep : has (first language (by_next p q)) (next language ts) ≡ true → nat_le (low language p) room ≡ false → nat_le (low language q) room ≡ false → part room (by_next p q) ts ≡ Err (TooDeep, ts)
  both_deep h a b = go (has (first language p) (next language ts)) refl
    where
      go : (x : Bool) → has (first language p) (next language ts) ≡ x → part room (by_next p q) ts ≡ Err (TooDeep, ts)
      go true e = left_deep e a
      go false e = right_deep e (on_right h e) b

-- ---- between two rules

module _ {A : Type 0} (p q : R A) (room : ℕ) (ts : List Lexeme) where
  -- the first rule is meant, and there is room
  pub rule_left : has (first_rule language p) (next language ts) ≡ true → nat_le (low_rule language p) (suc room) ≡ true → rule_at room (pick p q) ts ≡ rule_at room p ts
  unfolding read_rule
  rule_left h fits = rw h (rw fits refl)

  -- the first rule is meant, and there is no room
  pub rule_left_deep : has (first_rule language p) (next language ts) ≡ true → nat_le (low_rule language p) (suc room) ≡ false → rule_at room (pick p q) ts ≡ Err (TooDeep, ts)
  unfolding read_rule
  rule_left_deep h fits = rw h (rw fits refl)

  -- the second rule is meant, and there is room
  pub rule_right : has (first_rule language p) (next language ts) ≡ false → has (first_rule language q) (next language ts) ≡ true → nat_le (low_rule language q) (suc room) ≡ true → rule_at room (pick p q) ts ≡ rule_at room q ts
  unfolding read_rule
  rule_right h k fits = rw h (rw k (rw fits refl))

  -- the second rule is meant, and there is no room
  pub rule_right_deep : has (first_rule language p) (next language ts) ≡ false → has (first_rule language q) (next language ts) ≡ true → nat_le (low_rule language q) (suc room) ≡ false → rule_at room (pick p q) ts ≡ Err (TooDeep, ts)
  unfolding read_rule
  rule_right_deep h k fits = rw h (rw k (rw fits refl))

  -- neither is meant
  pub rule_neither : has (first_rule language p) (next language ts) ≡ false → has (first_rule language q) (next language ts) ≡ false → rule_at room (pick p q) ts ≡ Err (Unexpected, ts)
  unfolding read_rule
  rule_neither h k = rw h (rw k refl)
