-- How large the numbers get on the way to a form. Own.
use Rattle.std.specs.Prelude.{ℕ, ◌+◌, List, ℤ, neg_ℤ, ◌+ℤ◌, ◌*ℤ◌, ◌≤ℤ◌, FitsSigned}
use Rattle.std.specs.Int.{w128}
use Rattle.terms.specs.declared.term.Term.{Term}
use Rattle.rule_linear.specs.declared.form.Part.{Part}
use Rattle.rule_linear.specs.declared.bound.Bound.{Bound}
use Rattle.rule_linear.specs.declared.bound.Weights.{Weights}
use Rattle.rule_linear.specs.Forms.{Sum, number_of, steps, AllFit}
use Rattle.rule_linear.specs.Bounds.{bound_number, bound_steps}
use Rattle.rule_linear.specs.Sides.{first_total}
use Rattle.rule_linear.specs.Walks.{more_steps, literal_steps}

-- the number without its sign is at most so large
abbrev pub IsAtMost : ℤ → ℤ → Type 0
IsAtMost size x = (neg_ℤ size ≤ℤ x) × (x ≤ℤ size)

-- All steps to the form fit, and none of its numbers is larger than the size, which is a number of 128 bits.
pub record IsSized (s : Sum) (size : ℤ) : Type 0 where
  pub fit : AllFit (steps s)
  pub within : (p : Part) → IsAtMost size (number_of s p)
  pub size_fits : FitsSigned w128 size

-- the same of a bound
pub record IsBoundSized (terms : List Term) (b : Bound) (size : ℤ) : Type 0 where
  pub fit : AllFit (bound_steps terms b)
  pub within : (p : Part) → IsAtMost size (bound_number terms b p)
  pub size_fits : FitsSigned w128 size

-- no number of the sum of the first multiples is larger than the size
pub record IsTotalSized (w : Weights) (terms : List Term) (end : ℕ) (size : ℤ) : Type 0 where
  pub within : (p : Part) → IsAtMost size (first_total w terms end p)
  pub size_fits : FitsSigned w128 size

-- the same with a multiple of the bound, and all steps to it fit
pub record IsMoreSized (w : Weights) (terms : List Term) (end : ℕ) (m : ℤ) (b : Bound) (size : ℤ) : Type 0 where
  pub fit : AllFit (more_steps w terms end m b)
  pub within : (p : Part) → IsAtMost size (first_total w terms end p +ℤ m *ℤ bound_number terms b p)
  pub size_fits : FitsSigned w128 size

-- the same with the literal at a place
pub record IsNextSized (w : Weights) (terms : List Term) (i : ℕ) (size : ℤ) : Type 0 where
  pub fit : AllFit (literal_steps w terms i)
  pub within : (p : Part) → IsAtMost size (first_total w terms (i + 1) p)
  pub size_fits : FitsSigned w128 size
