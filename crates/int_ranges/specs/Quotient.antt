-- What C's `/` and `%` give. From ISO/IEC 9899 6.5.5: `/` is the algebraic quotient with any fractional part discarded, and (a/b)*b + a%b is a.
use Rattle.std.specs.Prelude.{◌≡◌, ◌⊎◌, ◌<◌, ℤ, pos, ◌+ℤ◌, ◌*ℤ◌, ◌<ℤ◌, unsigned_abs}

-- both are above 0, or both are below
abbrev pub HaveOneSign : ℤ → ℤ → Type 0
HaveOneSign x y = ((pos 0 <ℤ x) × (pos 0 <ℤ y)) ⊎ ((x <ℤ pos 0) × (y <ℤ pos 0))

-- q and r are the quotient and the remainder of a by b: a is q * b + r, r is nearer to 0 than b, and r is 0 or of a's sign
pub record IsQuotient (a b q r : ℤ) : Type 0 where
  pub whole : a ≡ q *ℤ b +ℤ r
  pub below : unsigned_abs r < unsigned_abs b
  pub sign : (r ≡ pos 0) ⊎ HaveOneSign a r
