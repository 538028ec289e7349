-- Parts that may be left out.
use Rattle.std.proofs.Common.{◌≡◌, ℕ, nat_le, Bool, true, false, List, Option, Some, None, Ok, Err, refl, ap, ◌∙◌, max, arith}
use Rattle.std.specs.Prelude.{◌==◌, ◌||◌}
use Rattle.ebnf.specs.Rules.{below, nothing}
use Rattle.ebnf.specs.Sets.{has, first, low, is_empty}
use Rattle.ebnf.specs.Derives.{next}
use Rattle.ebnf.specs.Reading.{Out, TooDeep, on, read, reads}
use Rattle.c_syntax.specs.declared.token.Sign.TheVariants as s
use Rattle.c_syntax.specs.Classes.{key, sign}
use Rattle.c_syntax.specs.Lexing.{Lexeme}
use Rattle.c_syntax.specs.declared.token.Keyword.TheVariants as k
use Rattle.c_syntax.specs.Expressions.{Assignment}
use Rattle.c_syntax.specs.Language.{language}
use Rattle.c_syntax.specs.Grammar as g
use Rattle.c_syntax.specs.Grammar.{P, ◌▷◌}
use Rattle.reader_expressions.specs.Reading.{part}
use Rattle.reader_assignments.proofs.Listed.{fits_zero}

ended : {A : Type 0} (out : Out language A) → on language out (λ b i mid. on language {A = A → Option A} {B = Option A} (Ok ((λ x. Some x), 0, mid)) (λ f j rest. Ok (f b, max i j, rest))) ≡ on language out (λ a i rest. Ok (Some a, i, rest))
ended (Ok p) = let z : max p.1 0 ≡ p.1 = omega arith in ap (λ i. Ok (Some p.0, i, p.2)) z
ended (Err e) = refl

abbrev pub present : {A : Type 0} → P A → P (Option A)
present p = p ▷ nothing (λ x. Some x)

module _ {A : Type 0} (p : P A) (room : ℕ) (ts : List Lexeme) where
  pub some_read : has (first language (present p)) (next language ts) ≡ true → nat_le (low language (present p)) room ≡ true → part room (g.optional p) ts ≡ on language (part room p ts) (λ a i rest. Ok (Some a, i, rest))
  unfolding read
  some_read h fits = rw h (rw fits (ended (part room p ts)))

  pub none_read : has (first language (present p)) (next language ts) ≡ false → part room (g.optional p) ts ≡ Ok (None, 0, ts)
  unfolding read low is_empty
  none_read h = rw h (rw (fits_zero room) refl)

  pub high_read : has (first language (present p)) (next language ts) ≡ true → nat_le (low language (present p)) room ≡ false → part room (g.optional p) ts ≡ Err (TooDeep, ts)
  unfolding read
  high_read h fits = rw h (rw fits refl)

or_false : (b c : Bool) → b ≡ c → (b || false) ≡ c
or_false true c e = e
or_false false c e = e

-- ---- a first value

pub first_value_some : (room : ℕ) (ts : List Lexeme) → (next language ts == sign s.Assign) ≡ true → nat_le 1 room ≡ true → part room (g.optional g.first_value) ts ≡ on language (part room g.first_value ts) (λ a i rest. Ok (Some a, i, rest))
unfolding first low is_empty
first_value_some room ts h fits = some_read g.first_value room ts (or_false _ _ h) fits

pub first_value_none : (room : ℕ) (ts : List Lexeme) → (next language ts == sign s.Assign) ≡ false → part room (g.optional g.first_value) ts ≡ Ok (None, 0, ts)
unfolding first is_empty
first_value_none room ts h = none_read g.first_value room ts (or_false _ _ h)

pub first_value_high : (room : ℕ) (ts : List Lexeme) → (next language ts == sign s.Assign) ≡ true → nat_le 1 room ≡ false → part room (g.optional g.first_value) ts ≡ Err (TooDeep, ts)
unfolding first low is_empty
first_value_high room ts h fits = high_read g.first_value room ts (or_false _ _ h) fits

-- ---- an expression

pub whole_read : {A : Type 0} (out : Out language A) → on language out (λ b i rest. Ok (b, i, rest)) ≡ out
whole_read (Ok p) = refl
whole_read (Err e) = refl

code_is : (room : ℕ) (ts : List Lexeme) → part room g.code ts ≡ reads language room (g.Level g.Code g.Choice) ts
unfolding read
code_is room ts = whole_read (reads language room (g.Level g.Code g.Choice) ts)

pub code_some : (room : ℕ) (ts : List Lexeme) → has (first language g.code) (next language ts) ≡ true → nat_le 1 room ≡ true → part room (g.optional g.code) ts ≡ on language (reads language room (g.Level g.Code g.Choice) ts) (λ a i rest. Ok (Some a, i, rest))
unfolding first low is_empty
code_some room ts h fits = some_read g.code room ts h fits ∙ ap (λ o. on language o (λ a i rest. Ok (Some a, i, rest))) (code_is room ts)

pub code_none : (room : ℕ) (ts : List Lexeme) → has (first language g.code) (next language ts) ≡ false → part room (g.optional g.code) ts ≡ Ok (None, 0, ts)
unfolding first is_empty
code_none room ts h = none_read g.code room ts h

pub code_high : (room : ℕ) (ts : List Lexeme) → has (first language g.code) (next language ts) ≡ true → nat_le 1 room ≡ false → part room (g.optional g.code) ts ≡ Err (TooDeep, ts)
unfolding first low is_empty
code_high room ts h fits = high_read g.code room ts h fits

-- ---- `else` and a statement

pub else_some : (room : ℕ) (ts : List Lexeme) → (next language ts == key k.Else) ≡ true → nat_le 1 room ≡ true → part room (g.optional g.else_part) ts ≡ on language (part room g.else_part ts) (λ a i rest. Ok (Some a, i, rest))
unfolding first low is_empty
else_some room ts h fits = some_read g.else_part room ts (or_false _ _ h) fits

pub else_none : (room : ℕ) (ts : List Lexeme) → (next language ts == key k.Else) ≡ false → part room (g.optional g.else_part) ts ≡ Ok (None, 0, ts)
unfolding first is_empty
else_none room ts h = none_read g.else_part room ts (or_false _ _ h)

pub else_high : (room : ℕ) (ts : List Lexeme) → (next language ts == key k.Else) ≡ true → nat_le 1 room ≡ false → part room (g.optional g.else_part) ts ≡ Err (TooDeep, ts)
unfolding first low is_empty
else_high room ts h fits = high_read g.else_part room ts (or_false _ _ h) fits

-- ---- an assignment of a `for`

abbrev assigned : P Assignment
assigned = below g.Assigned (λ x. x)

pub assigned_some : (room : ℕ) (ts : List Lexeme) → has (language.begins g.Assigned) (next language ts) ≡ true → nat_le 2 room ≡ true → part room (g.optional assigned) ts ≡ on language (reads language room g.Assigned ts) (λ a i rest. Ok (Some a, i, rest))
unfolding first low is_empty read
assigned_some room ts h fits = some_read assigned room ts h fits ∙ ap (λ o. on language o (λ a i rest. Ok (Some a, i, rest))) (whole_read (reads language room g.Assigned ts))

pub assigned_none : (room : ℕ) (ts : List Lexeme) → has (language.begins g.Assigned) (next language ts) ≡ false → part room (g.optional assigned) ts ≡ Ok (None, 0, ts)
unfolding first is_empty
assigned_none room ts h = none_read assigned room ts h

pub assigned_high : (room : ℕ) (ts : List Lexeme) → has (language.begins g.Assigned) (next language ts) ≡ true → nat_le 2 room ≡ false → part room (g.optional assigned) ts ≡ Err (TooDeep, ts)
unfolding first low is_empty
assigned_high room ts h fits = high_read assigned room ts h fits
