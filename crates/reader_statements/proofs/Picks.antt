-- A choice between two rules.
use Rattle.std.proofs.Common.{◌≡◌, ℕ, suc, nat_le, true, false, List, Err, refl}
use Rattle.ebnf.specs.Rules.{pick}
use Rattle.ebnf.specs.Sets.{has, first_rule, low_rule}
use Rattle.ebnf.specs.Derives.{next}
use Rattle.ebnf.specs.Reading.{Unexpected, TooDeep, read, read_rule}
use Rattle.c_syntax.specs.Lexing.{Lexeme}
use Rattle.c_syntax.specs.Language.{language}
use Rattle.c_syntax.specs.Grammar.{R}
use Rattle.reader_expressions.specs.Reading.{rule_at}
use Rattle.reader_statements.specs.Rows.{skip}

module _ {A : Type 0} (p q : R A) (room : ℕ) (ts : List Lexeme) where
  pub first_picked : has (first_rule language p) (next language ts) ≡ true → nat_le (low_rule language p) (suc room) ≡ true → rule_at room (pick p q) ts ≡ rule_at room p ts
  unfolding read_rule
  first_picked h fits = rw h (rw fits refl)

  pub other_picked : has (first_rule language p) (next language ts) ≡ false → has (first_rule language q) (next language ts) ≡ true → nat_le (low_rule language q) (suc room) ≡ true → rule_at room (pick p q) ts ≡ rule_at room q ts
  unfolding read_rule
  other_picked h k fits = rw h (rw k (rw fits refl))

  pub other_high : has (first_rule language p) (next language ts) ≡ false → has (first_rule language q) (next language ts) ≡ true → nat_le (low_rule language q) (suc room) ≡ false → rule_at room (pick p q) ts ≡ Err (TooDeep, ts)
  unfolding read_rule
  other_high h k fits = rw h (rw k (rw fits refl))

  pub none_picked : has (first_rule language p) (next language ts) ≡ false → has (first_rule language q) (next language ts) ≡ false → rule_at room (pick p q) ts ≡ Err (Unexpected, ts)
  unfolding read_rule
  none_picked h k = rw h (rw k refl)

-- a single token needs no room
pub skip_any : (room : ℕ) (ts : List Lexeme) → rule_at room (skip (λ x. x)) ts ≡ rule_at 0 (skip (λ x. x)) ts
unfolding read_rule read
skip_any room ts = refl
