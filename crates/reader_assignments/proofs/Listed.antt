-- Lists that may have nothing in them.
use Rattle.std.proofs.Common.{◌≡◌, ℕ, nat_le, true, false, List, [], Ok, Err, refl, arith}
use Rattle.ebnf.specs.Sets.{has, first, low, is_empty}
use Rattle.ebnf.specs.Derives.{next}
use Rattle.ebnf.specs.Reading.{TooDeep, read}
use Rattle.ebnf.specs.Tools.{true_le}
use Rattle.c_syntax.specs.Lexing.{Lexeme}
use Rattle.c_syntax.specs.Language.{language}
use Rattle.c_syntax.specs.Grammar as g
use Rattle.reader_expressions.specs.Reading.{part}

pub fits_zero : (room : ℕ) → nat_le 0 room ≡ true
fits_zero room = true_le 0 room (omega arith)

pub some_listed : (room : ℕ) (ts : List Lexeme) → has (first language g.code) (next language ts) ≡ true → nat_le 1 room ≡ true → part room (g.list_or_none g.code) ts ≡ part room (g.list g.code) ts
unfolding read first low is_empty
some_listed room ts h fits = rw h (rw fits refl)

pub none_listed : (room : ℕ) (ts : List Lexeme) → has (first language g.code) (next language ts) ≡ false → part room (g.list_or_none g.code) ts ≡ Ok ([], 0, ts)
unfolding read first low is_empty
none_listed room ts h = rw h (rw (fits_zero room) refl)

pub too_deep : (room : ℕ) (ts : List Lexeme) → has (first language g.code) (next language ts) ≡ true → nat_le 1 room ≡ false → part room (g.list_or_none g.code) ts ≡ Err (TooDeep, ts)
unfolding read first low is_empty
too_deep room ts h fits = rw h (rw fits refl)
