-- The arguments of a spawned function.
use Rattle.std.proofs.Common.{◌≡◌, ℕ, nat_le, Bool, true, false, List, [], Ok, refl}
use Rattle.std.specs.Prelude.{◌==◌, ◌||◌}
use Rattle.ebnf.specs.Rules.{nothing, by_next}
use Rattle.ebnf.specs.Sets.{has, first, low, is_empty}
use Rattle.ebnf.specs.Derives.{next}
use Rattle.ebnf.specs.Reading.{read}
use Rattle.c_syntax.specs.declared.token.Sign.TheVariants as s
use Rattle.c_syntax.specs.Classes.{sign}
use Rattle.c_syntax.specs.Lexing.{Lexeme}
use Rattle.c_syntax.specs.Language.{language}
use Rattle.c_syntax.specs.Expressions.{Exp}
use Rattle.c_syntax.specs.Grammar.{P, ◌▷◌, word, code, list_or_none, ghost_arguments}
use Rattle.reader_expressions.specs.Reading.{part}
use Rattle.reader_assignments.proofs.Listed.{fits_zero}
use Rattle.reader_statements.specs.Rows.{spawn_arguments}

module _ {A : Type 0} (p q : P A) (room : ℕ) (ts : List Lexeme) where
  pub first_read : has (first language p) (next language ts) ≡ true → nat_le (low language p) room ≡ true → part room (by_next p q) ts ≡ part room p ts
  unfolding read
  first_read h fits = rw h (rw fits refl)

abbrev pub with_comma : P (List Exp × List Exp)
with_comma = word (sign s.Comma) ▷ list_or_none code ▷ ghost_arguments ▷ nothing (λ gs xs c. (xs, gs))

or_false : (b c : Bool) → b ≡ c → (b || false) ≡ c
or_false true c e = e
or_false false c e = e

pub some_arguments : (room : ℕ) (ts : List Lexeme) → (next language ts == sign s.Comma) ≡ true → part room spawn_arguments ts ≡ part room with_comma ts
unfolding first low is_empty
some_arguments room ts h = first_read with_comma (nothing ([], [])) room ts (or_false _ _ h) (fits_zero room)

pub no_arguments : (room : ℕ) (ts : List Lexeme) → (next language ts == sign s.Comma) ≡ false → part room spawn_arguments ts ≡ Ok (([], []), 0, ts)
unfolding read first low is_empty
no_arguments room ts h = rw h (rw (fits_zero room) refl)
