-- Which signs there are, and what they begin with.
use Rattle.std.proofs.Common.{◌≡◌, ◌≢◌, ℕ, ◌<◌, true, false, List, [], ◌∷◌, ◌++◌, length, get_or, refl, sym, ap, ◌∙◌, lit<, inl, inr, arith}
use Rattle.std.specs.Prelude.{All, Contains, ◌⊎◌, if◌then◌else◌}
use Rattle.std.specs.Str.{bytes_eq}
use Rattle.std.proofs.lemmas.List.Elements.{All-from_recursion, All-contains}
use Rattle.c_syntax.specs.declared.token.Sign.{Sign}
use Rattle.c_syntax.specs.declared.token.Sign.TheVariants as s
use Rattle.c_syntax.specs.Words.{sign_text}
use Rattle.c_syntax.specs.Numbers.{is_digit}
use Rattle.c_syntax.specs.Tokens.{begins_name}
use Rattle.vcc_lexer.specs.declared.signs.TheConstants.{LONG_SIGNS, SIGNS_OF_TWO, SIGNS_OF_ONE}

pub each_sign : (P : Sign → Type 0) → All P LONG_SIGNS → All P SIGNS_OF_TWO → All P SIGNS_OF_ONE → (x : Sign) → P x
each_sign P long two one s.Open = one 0 s.Open (lit< tt)
each_sign P long two one s.Close = one 1 s.Close (lit< tt)
each_sign P long two one s.BraceOpen = one 2 s.BraceOpen (lit< tt)
each_sign P long two one s.BraceClose = one 3 s.BraceClose (lit< tt)
each_sign P long two one s.BracketOpen = one 4 s.BracketOpen (lit< tt)
each_sign P long two one s.BracketClose = one 5 s.BracketClose (lit< tt)
each_sign P long two one s.Annotation = two 0 s.Annotation (lit< tt)
each_sign P long two one s.Semicolon = one 6 s.Semicolon (lit< tt)
each_sign P long two one s.Comma = one 7 s.Comma (lit< tt)
each_sign P long two one s.Arrow = two 1 s.Arrow (lit< tt)
each_sign P long two one s.Assign = one 8 s.Assign (lit< tt)
each_sign P long two one s.AddAssign = two 2 s.AddAssign (lit< tt)
each_sign P long two one s.SubtractAssign = two 3 s.SubtractAssign (lit< tt)
each_sign P long two one s.Increment = two 4 s.Increment (lit< tt)
each_sign P long two one s.Decrement = two 5 s.Decrement (lit< tt)
each_sign P long two one s.Equal = two 6 s.Equal (lit< tt)
each_sign P long two one s.NotEqual = two 7 s.NotEqual (lit< tt)
each_sign P long two one s.Less = one 9 s.Less (lit< tt)
each_sign P long two one s.LessEqual = two 8 s.LessEqual (lit< tt)
each_sign P long two one s.Greater = one 10 s.Greater (lit< tt)
each_sign P long two one s.GreaterEqual = two 9 s.GreaterEqual (lit< tt)
each_sign P long two one s.Plus = one 11 s.Plus (lit< tt)
each_sign P long two one s.Minus = one 12 s.Minus (lit< tt)
each_sign P long two one s.Star = one 13 s.Star (lit< tt)
each_sign P long two one s.Slash = one 14 s.Slash (lit< tt)
each_sign P long two one s.Percent = one 15 s.Percent (lit< tt)
each_sign P long two one s.Not = one 16 s.Not (lit< tt)
each_sign P long two one s.And = two 10 s.And (lit< tt)
each_sign P long two one s.Or = two 11 s.Or (lit< tt)
each_sign P long two one s.Question = one 17 s.Question (lit< tt)
each_sign P long two one s.Colon = one 18 s.Colon (lit< tt)
each_sign P long two one s.Ampersand = one 19 s.Ampersand (lit< tt)
each_sign P long two one s.Implies = long 1 s.Implies (lit< tt)
each_sign P long two one s.Equivalent = long 0 s.Equivalent (lit< tt)
each_sign P long two one s.Dot = one 20 s.Dot (lit< tt)
each_sign P long two one s.Bar = one 21 s.Bar (lit< tt)
each_sign P long two one s.Caret = one 22 s.Caret (lit< tt)
each_sign P long two one s.Tilde = one 23 s.Tilde (lit< tt)

-- signs by their lengths
pub data OfLength (x : Sign) : Type 0 where
  one : length (sign_text x) ≡ 1 → OfLength x
  two : Contains SIGNS_OF_TWO x → length (sign_text x) ≡ 2 → OfLength x
  three : x ≡ s.Implies → OfLength x
  four : x ≡ s.Equivalent → OfLength x

pub of_length : (x : Sign) → OfLength x
of_length s.Open = one refl
of_length s.Close = one refl
of_length s.BraceOpen = one refl
of_length s.BraceClose = one refl
of_length s.BracketOpen = one refl
of_length s.BracketClose = one refl
of_length s.Annotation = two (0, lit< tt, refl) refl
of_length s.Semicolon = one refl
of_length s.Comma = one refl
of_length s.Arrow = two (1, lit< tt, refl) refl
of_length s.Assign = one refl
of_length s.AddAssign = two (2, lit< tt, refl) refl
of_length s.SubtractAssign = two (3, lit< tt, refl) refl
of_length s.Increment = two (4, lit< tt, refl) refl
of_length s.Decrement = two (5, lit< tt, refl) refl
of_length s.Equal = two (6, lit< tt, refl) refl
of_length s.NotEqual = two (7, lit< tt, refl) refl
of_length s.Less = one refl
of_length s.LessEqual = two (8, lit< tt, refl) refl
of_length s.Greater = one refl
of_length s.GreaterEqual = two (9, lit< tt, refl) refl
of_length s.Plus = one refl
of_length s.Minus = one refl
of_length s.Star = one refl
of_length s.Slash = one refl
of_length s.Percent = one refl
of_length s.Not = one refl
of_length s.And = two (10, lit< tt, refl) refl
of_length s.Or = two (11, lit< tt, refl) refl
of_length s.Question = one refl
of_length s.Colon = one refl
of_length s.Ampersand = one refl
of_length s.Implies = three refl
of_length s.Equivalent = four refl
of_length s.Dot = one refl
of_length s.Bar = one refl
of_length s.Caret = one refl
of_length s.Tilde = one refl

pub two_length : All (λ x. length (sign_text x) ≡ 2) SIGNS_OF_TWO
two_length = All-from_recursion (λ x. length (sign_text x) ≡ 2) SIGNS_OF_TWO (refl, (refl, (refl, (refl, (refl, (refl, (refl, (refl, (refl, (refl, (refl, (refl, tt))))))))))))

pub one_length : All (λ x. length (sign_text x) ≡ 1) SIGNS_OF_ONE
one_length = All-from_recursion (λ x. length (sign_text x) ≡ 1) SIGNS_OF_ONE (refl, (refl, (refl, (refl, (refl, (refl, (refl, (refl, (refl, (refl, (refl, (refl, (refl, (refl, (refl, (refl, (refl, (refl, (refl, (refl, (refl, (refl, (refl, (refl, tt))))))))))))))))))))))))

pub long_is : (x : Sign) → Contains LONG_SIGNS x → (x ≡ s.Equivalent) ⊎ (x ≡ s.Implies)
long_is x c = All-contains (λ (y : Sign). (y ≡ s.Equivalent) ⊎ (y ≡ s.Implies)) LONG_SIGNS x (All-from_recursion (λ (y : Sign). (y ≡ s.Equivalent) ⊎ (y ≡ s.Implies)) LONG_SIGNS (inl refl, (inr refl, tt))) c

-- what a sign begins with
pub record First (x : Sign) (b : ℕ) : Type 0 where
  pub digit : is_digit b ≡ false
  pub name : begins_name b ≡ true → x ≡ s.Annotation
  pub backslash : b ≢ 92
  pub number_sign : b ≢ 35
  pub past_blanks : 32 < b
  pub some : 0 < length (sign_text x)
  pub slash : b ≡ 47 → x ≡ s.Slash

pub first_of : (x : Sign) → First x (get_or (sign_text x) 0 0)
first_of s.Open = record { digit = refl; name = λ e. absurd (cc); backslash = λ e. omega arith; number_sign = λ e. omega arith; past_blanks = lit< tt; some = lit< tt; slash = λ e. absurd (omega arith) }
first_of s.Close = record { digit = refl; name = λ e. absurd (cc); backslash = λ e. omega arith; number_sign = λ e. omega arith; past_blanks = lit< tt; some = lit< tt; slash = λ e. absurd (omega arith) }
first_of s.BraceOpen = record { digit = refl; name = λ e. absurd (cc); backslash = λ e. omega arith; number_sign = λ e. omega arith; past_blanks = lit< tt; some = lit< tt; slash = λ e. absurd (omega arith) }
first_of s.BraceClose = record { digit = refl; name = λ e. absurd (cc); backslash = λ e. omega arith; number_sign = λ e. omega arith; past_blanks = lit< tt; some = lit< tt; slash = λ e. absurd (omega arith) }
first_of s.BracketOpen = record { digit = refl; name = λ e. absurd (cc); backslash = λ e. omega arith; number_sign = λ e. omega arith; past_blanks = lit< tt; some = lit< tt; slash = λ e. absurd (omega arith) }
first_of s.BracketClose = record { digit = refl; name = λ e. absurd (cc); backslash = λ e. omega arith; number_sign = λ e. omega arith; past_blanks = lit< tt; some = lit< tt; slash = λ e. absurd (omega arith) }
first_of s.Annotation = record { digit = refl; name = λ e. refl; backslash = λ e. omega arith; number_sign = λ e. omega arith; past_blanks = lit< tt; some = lit< tt; slash = λ e. absurd (omega arith) }
first_of s.Semicolon = record { digit = refl; name = λ e. absurd (cc); backslash = λ e. omega arith; number_sign = λ e. omega arith; past_blanks = lit< tt; some = lit< tt; slash = λ e. absurd (omega arith) }
first_of s.Comma = record { digit = refl; name = λ e. absurd (cc); backslash = λ e. omega arith; number_sign = λ e. omega arith; past_blanks = lit< tt; some = lit< tt; slash = λ e. absurd (omega arith) }
first_of s.Arrow = record { digit = refl; name = λ e. absurd (cc); backslash = λ e. omega arith; number_sign = λ e. omega arith; past_blanks = lit< tt; some = lit< tt; slash = λ e. absurd (omega arith) }
first_of s.Assign = record { digit = refl; name = λ e. absurd (cc); backslash = λ e. omega arith; number_sign = λ e. omega arith; past_blanks = lit< tt; some = lit< tt; slash = λ e. absurd (omega arith) }
first_of s.AddAssign = record { digit = refl; name = λ e. absurd (cc); backslash = λ e. omega arith; number_sign = λ e. omega arith; past_blanks = lit< tt; some = lit< tt; slash = λ e. absurd (omega arith) }
first_of s.SubtractAssign = record { digit = refl; name = λ e. absurd (cc); backslash = λ e. omega arith; number_sign = λ e. omega arith; past_blanks = lit< tt; some = lit< tt; slash = λ e. absurd (omega arith) }
first_of s.Increment = record { digit = refl; name = λ e. absurd (cc); backslash = λ e. omega arith; number_sign = λ e. omega arith; past_blanks = lit< tt; some = lit< tt; slash = λ e. absurd (omega arith) }
first_of s.Decrement = record { digit = refl; name = λ e. absurd (cc); backslash = λ e. omega arith; number_sign = λ e. omega arith; past_blanks = lit< tt; some = lit< tt; slash = λ e. absurd (omega arith) }
first_of s.Equal = record { digit = refl; name = λ e. absurd (cc); backslash = λ e. omega arith; number_sign = λ e. omega arith; past_blanks = lit< tt; some = lit< tt; slash = λ e. absurd (omega arith) }
first_of s.NotEqual = record { digit = refl; name = λ e. absurd (cc); backslash = λ e. omega arith; number_sign = λ e. omega arith; past_blanks = lit< tt; some = lit< tt; slash = λ e. absurd (omega arith) }
first_of s.Less = record { digit = refl; name = λ e. absurd (cc); backslash = λ e. omega arith; number_sign = λ e. omega arith; past_blanks = lit< tt; some = lit< tt; slash = λ e. absurd (omega arith) }
first_of s.LessEqual = record { digit = refl; name = λ e. absurd (cc); backslash = λ e. omega arith; number_sign = λ e. omega arith; past_blanks = lit< tt; some = lit< tt; slash = λ e. absurd (omega arith) }
first_of s.Greater = record { digit = refl; name = λ e. absurd (cc); backslash = λ e. omega arith; number_sign = λ e. omega arith; past_blanks = lit< tt; some = lit< tt; slash = λ e. absurd (omega arith) }
first_of s.GreaterEqual = record { digit = refl; name = λ e. absurd (cc); backslash = λ e. omega arith; number_sign = λ e. omega arith; past_blanks = lit< tt; some = lit< tt; slash = λ e. absurd (omega arith) }
first_of s.Plus = record { digit = refl; name = λ e. absurd (cc); backslash = λ e. omega arith; number_sign = λ e. omega arith; past_blanks = lit< tt; some = lit< tt; slash = λ e. absurd (omega arith) }
first_of s.Minus = record { digit = refl; name = λ e. absurd (cc); backslash = λ e. omega arith; number_sign = λ e. omega arith; past_blanks = lit< tt; some = lit< tt; slash = λ e. absurd (omega arith) }
first_of s.Star = record { digit = refl; name = λ e. absurd (cc); backslash = λ e. omega arith; number_sign = λ e. omega arith; past_blanks = lit< tt; some = lit< tt; slash = λ e. absurd (omega arith) }
first_of s.Slash = record { digit = refl; name = λ e. absurd (cc); backslash = λ e. omega arith; number_sign = λ e. omega arith; past_blanks = lit< tt; some = lit< tt; slash = λ e. refl }
first_of s.Percent = record { digit = refl; name = λ e. absurd (cc); backslash = λ e. omega arith; number_sign = λ e. omega arith; past_blanks = lit< tt; some = lit< tt; slash = λ e. absurd (omega arith) }
first_of s.Not = record { digit = refl; name = λ e. absurd (cc); backslash = λ e. omega arith; number_sign = λ e. omega arith; past_blanks = lit< tt; some = lit< tt; slash = λ e. absurd (omega arith) }
first_of s.And = record { digit = refl; name = λ e. absurd (cc); backslash = λ e. omega arith; number_sign = λ e. omega arith; past_blanks = lit< tt; some = lit< tt; slash = λ e. absurd (omega arith) }
first_of s.Or = record { digit = refl; name = λ e. absurd (cc); backslash = λ e. omega arith; number_sign = λ e. omega arith; past_blanks = lit< tt; some = lit< tt; slash = λ e. absurd (omega arith) }
first_of s.Question = record { digit = refl; name = λ e. absurd (cc); backslash = λ e. omega arith; number_sign = λ e. omega arith; past_blanks = lit< tt; some = lit< tt; slash = λ e. absurd (omega arith) }
first_of s.Colon = record { digit = refl; name = λ e. absurd (cc); backslash = λ e. omega arith; number_sign = λ e. omega arith; past_blanks = lit< tt; some = lit< tt; slash = λ e. absurd (omega arith) }
first_of s.Ampersand = record { digit = refl; name = λ e. absurd (cc); backslash = λ e. omega arith; number_sign = λ e. omega arith; past_blanks = lit< tt; some = lit< tt; slash = λ e. absurd (omega arith) }
first_of s.Implies = record { digit = refl; name = λ e. absurd (cc); backslash = λ e. omega arith; number_sign = λ e. omega arith; past_blanks = lit< tt; some = lit< tt; slash = λ e. absurd (omega arith) }
first_of s.Equivalent = record { digit = refl; name = λ e. absurd (cc); backslash = λ e. omega arith; number_sign = λ e. omega arith; past_blanks = lit< tt; some = lit< tt; slash = λ e. absurd (omega arith) }
first_of s.Dot = record { digit = refl; name = λ e. absurd (cc); backslash = λ e. omega arith; number_sign = λ e. omega arith; past_blanks = lit< tt; some = lit< tt; slash = λ e. absurd (omega arith) }
first_of s.Bar = record { digit = refl; name = λ e. absurd (cc); backslash = λ e. omega arith; number_sign = λ e. omega arith; past_blanks = lit< tt; some = lit< tt; slash = λ e. absurd (omega arith) }
first_of s.Caret = record { digit = refl; name = λ e. absurd (cc); backslash = λ e. omega arith; number_sign = λ e. omega arith; past_blanks = lit< tt; some = lit< tt; slash = λ e. absurd (omega arith) }
first_of s.Tilde = record { digit = refl; name = λ e. absurd (cc); backslash = λ e. omega arith; number_sign = λ e. omega arith; past_blanks = lit< tt; some = lit< tt; slash = λ e. absurd (omega arith) }

-- ---- the sign that is spelled so

look_up : List ℕ → List Sign → Sign
look_up w [] = s.Open
look_up w (x ∷ xs) = if bytes_eq w (sign_text x) then x else look_up w xs

sign_of : List ℕ → Sign
sign_of w = look_up w (LONG_SIGNS ++ SIGNS_OF_TWO ++ SIGNS_OF_ONE)

sign_of_text : (x : Sign) → sign_of (sign_text x) ≡ x
unfolding sign_of look_up
sign_of_text s.Open = refl
sign_of_text s.Close = refl
sign_of_text s.BraceOpen = refl
sign_of_text s.BraceClose = refl
sign_of_text s.BracketOpen = refl
sign_of_text s.BracketClose = refl
sign_of_text s.Annotation = refl
sign_of_text s.Semicolon = refl
sign_of_text s.Comma = refl
sign_of_text s.Arrow = refl
sign_of_text s.Assign = refl
sign_of_text s.AddAssign = refl
sign_of_text s.SubtractAssign = refl
sign_of_text s.Increment = refl
sign_of_text s.Decrement = refl
sign_of_text s.Equal = refl
sign_of_text s.NotEqual = refl
sign_of_text s.Less = refl
sign_of_text s.LessEqual = refl
sign_of_text s.Greater = refl
sign_of_text s.GreaterEqual = refl
sign_of_text s.Plus = refl
sign_of_text s.Minus = refl
sign_of_text s.Star = refl
sign_of_text s.Slash = refl
sign_of_text s.Percent = refl
sign_of_text s.Not = refl
sign_of_text s.And = refl
sign_of_text s.Or = refl
sign_of_text s.Question = refl
sign_of_text s.Colon = refl
sign_of_text s.Ampersand = refl
sign_of_text s.Implies = refl
sign_of_text s.Equivalent = refl
sign_of_text s.Dot = refl
sign_of_text s.Bar = refl
sign_of_text s.Caret = refl
sign_of_text s.Tilde = refl

pub same_sign : (a b : Sign) → sign_text a ≡ sign_text b → a ≡ b
same_sign a b e = sym (sign_of_text a) ∙ ap sign_of e ∙ sign_of_text b
