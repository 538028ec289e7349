-- What the code tests for `cut`.
use Rattle.std.specs.Prelude.{◌≡◌, ℕ, ℤ, List}
use Rattle.int_ranges.specs.declared.exact.Wide.{Wide}
use Rattle.terms.specs.declared.term.Term.{Term}
use Rattle.terms.specs.declared.term.Literal.{Literal}
use Rattle.rule_linear.specs.declared.form.Part.TheVariants.{Constant}
use Rattle.rule_linear.specs.declared.agreement.Target.{Target}
use Rattle.rule_linear.specs.declared.bound.Bound.{Bound}
use Rattle.rule_linear.specs.declared.bound.Weights.{Weights}
use Rattle.rule_linear.specs.Bounds.{bound_number, total}
use Rattle.rule_linear.specs.Cuts.{IsCutRow, CutRowLeaves, rounded_up}
use Rattle.rule_linear.specs.Sides.{weighted}
use Rattle.rule_linear.specs.Tests.{AgreesAt}

abbrev pub IsCutRowOf : Weights → List Term → ℤ → Literal → Type 0
IsCutRowOf w terms g last = IsCutRow w.sorts.now terms g w.multipliers.now w.literals.now last

abbrev pub CutRowLeavesOf : Weights → List Term → ℤ → Literal → Wide → Type 0
CutRowLeavesOf w terms g last x = CutRowLeaves w.sorts.now terms g w.multipliers.now w.literals.now last x

-- the sum agrees with so many times the goal at each unit, and the goal's constant is its own, divided and rounded
pub record IsRounded (w : Weights) (terms : List Term) (g : Target) (goal : Bound) : Type 0 where
  pub units : (u : ℕ) → AgreesAt w terms g u
  pub constant : bound_number terms goal Constant ≡ rounded_up (total w.sorts.now terms (weighted w) Constant) g.factor
