-- What the code has of bounds and weights.
use Rattle.std.specs.Prelude.{ℕ, Bool, ◌<◌, ◌≤◌, List, zip, take, length, ℤ}
use Rattle.terms.specs.declared.term.Term.{Term}
use Rattle.vcc_rules.specs.Law.{IsWithin}
use Rattle.rule_linear.specs.declared.form.Part.{Part}
use Rattle.rule_linear.specs.declared.bound.Bound.{Bound}
use Rattle.rule_linear.specs.declared.bound.Weights.{Weights}
use Rattle.rule_linear.specs.Bounds.{Weighted, total, is_weighting}

-- the sides of a bound are terms
pub record AreWithin (terms : ℕ) (b : Bound) : Type 0 where
  pub left : b.left < terms
  pub right : b.right < terms

-- the multipliers with their literals
abbrev pub weighted : Weights → List Weighted
weighted w = zip w.multipliers.now w.literals.now

-- there are so many multipliers and literals, and the literals name terms
pub record Reach (terms : ℕ) (w : Weights) (end : ℕ) : Type 0 where
  pub within : IsWithin terms w.literals.now
  pub multipliers : end ≤ length w.multipliers.now
  pub literals : end ≤ length w.literals.now

-- the sum of the first multiples
abbrev pub first_total : Weights → List Term → ℕ → Part → ℤ
first_total w terms end p = total w.sorts.now terms (take end (weighted w)) p

-- whether the multipliers fit the literals
abbrev pub fits_literals : Weights → List Term → Bool
fits_literals w terms = is_weighting w.sorts.now terms w.multipliers.now w.literals.now
