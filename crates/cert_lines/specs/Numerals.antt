-- Numbers and literals as words. Decimal without leading zeros; `-` stands before a negative number, never before 0.
use Rattle.std.specs.Prelude.{◌≡◌, ℕ, ◌+◌, ◌-◌, ◌*◌, ◌^◌, ℤ, pos, negsuc, ◌||◌, List, [], ◌∷◌, length, Option, Some, None, nat_le, ◌==◌, if◌then◌else◌}
use Rattle.std.specs.Char.{is_ascii_digit}
use Rattle.terms.specs.declared.term.Literal.{Literal}

infixl 10 ◌>>=◌
abbrev pub ◌>>=◌ : {A B : Type 0} → Option A → (A → Option B) → Option B
(Some x) >>= f = f x
None >>= f = None

-- What a function returned, seen by view, is what reading gives.
abbrev pub Finds : {X Y : Type 0} → (X → Y) → Option X → Option Y → Type 0
Finds view (Some x) read = read ≡ Some (view x)
Finds view None read = read ≡ None

-- the digits that stand first, behind those of n
unfoldable pub digits_at : ℕ → List ℕ → ℕ × List ℕ
digits_at n [] = (n, [])
digits_at n (c ∷ rest) = if is_ascii_digit c then digits_at (n * 10 + (c - 48)) rest else (n, c ∷ rest)

abbrev pub at_most : ℕ → ℕ × List ℕ → Option (ℕ × List ℕ)
at_most most x = if nat_le x.0 most then Some x else None

-- a number up to most, and what stands behind it
unfoldable pub natural_at : ℕ → List ℕ → Option (ℕ × List ℕ)
natural_at most [] = None
natural_at most (c ∷ rest) = if c == 48 then Some (0, rest) else (if is_ascii_digit c then at_most most (digits_at 0 (c ∷ rest)) else None)

-- a whole number of 128 bits
unfoldable pub number_at : List ℕ → Option (ℤ × List ℕ)
number_at [] = None
number_at (c ∷ rest) = if c == 45 then (natural_at (2 ^ 127) rest >>= λ x. if x.0 == 0 then None else Some (negsuc (x.0 - 1), x.1)) else (natural_at (2 ^ 127 - 1) (c ∷ rest) >>= λ x. Some (pos x.0, x.1))

-- a sign, and the number of a term
unfoldable pub literal_at : List ℕ → Option (Literal × List ℕ)
literal_at [] = None
literal_at (c ∷ rest) = if c == 43 || c == 45 then (natural_at (2 ^ 32 - 1) rest >>= λ x. Some (record { term = x.0; positive = c == 43 }, x.1)) else None

-- nothing stands behind it
abbrev pub whole : {A : Type 0} → A × List ℕ → Option A
whole x = if length x.1 == 0 then Some x.0 else None

-- the number, argument or literal that the word is, if it is one
unfoldable pub number_in : List ℕ → Option ℤ
number_in word = number_at word >>= whole

unfoldable pub argument_in : List ℕ → Option ℕ
argument_in word = natural_at (2 ^ 32 - 1) word >>= whole

unfoldable pub literal_in : List ℕ → Option Literal
literal_in word = literal_at word >>= whole
