-- What the code tests unit by unit.
use Rattle.std.specs.Prelude.{◌≡◌, ℕ, List, [], ◌∷◌, ◌++◌, Option, Some, None, true, ℤ, pos, ◌*ℤ◌, FitsSigned}
use Rattle.std.specs.Int.{w128}
use Rattle.int_ranges.specs.declared.exact.Wide.{Wide}
use Rattle.terms.specs.declared.term.Term.{Term}
use Rattle.rule_linear.specs.Rows.{IsLinear, LinearLeaves}
use Rattle.terms.specs.declared.sort.Sort.{Sort}
use Rattle.rule_linear.specs.declared.form.Part.{Part}
use Rattle.rule_linear.specs.declared.form.Part.TheVariants.{Coefficient}
use Rattle.rule_linear.specs.declared.bound.Bound.{Bound}
use Rattle.rule_linear.specs.declared.bound.Weights.{Weights}
use Rattle.rule_linear.specs.declared.agreement.Target.{Target}
use Rattle.rule_linear.specs.Forms.{sum_at, units}
use Rattle.rule_linear.specs.Bounds.{bound_at, bound_number, Weighted, total, is_weighting}
use Rattle.rule_linear.specs.Sides.{AreWithin, weighted}

-- so many times the bound; nothing where there is none
abbrev pub multiple_of : List Term → ℤ → Option Bound → Part → ℤ
multiple_of terms g None p = pos 0
multiple_of terms g (Some b) p = g *ℤ bound_number terms b p

abbrev pub multiple : List Term → Target → Part → ℤ
multiple terms g p = multiple_of terms g.factor g.bound p

-- at this unit, the sum of the multiples is so many times the goal
abbrev pub AgreesAt : Weights → List Term → Target → ℕ → Type 0
AgreesAt w terms g u = total w.sorts.now terms (weighted w) (Coefficient u) ≡ multiple terms g (Coefficient u)

-- the same at each of the units
abbrev pub Agree : Weights → List Term → Target → List ℕ → Type 0
Agree w terms g [] = Unit {0}
Agree w terms g (u ∷ us) = AgreesAt w terms g u × Agree w terms g us

-- the units of a bound, and of the bounds of all literals
abbrev pub bound_units : List Term → Option Bound → List ℕ
bound_units terms None = []
bound_units terms (Some b) = units (sum_at terms b.left) ++ units (sum_at terms b.right)

abbrev pub all_units : List (Option Sort) → List Term → List Weighted → List ℕ
all_units sorts terms [] = []
all_units sorts terms (z ∷ zs) = bound_units terms (bound_at sorts terms z.1) ++ all_units sorts terms zs

-- the goal is of terms, and its numbers are of 128 bits
abbrev pub IsGoal : List Term → ℕ → Option Bound → Type 0
IsGoal terms n None = Unit {0}
IsGoal terms n (Some b) = AreWithin n b × ((p : Part) → FitsSigned w128 (bound_number terms b p))

-- the multipliers fit the literals
abbrev pub IsWeighting : Weights → List Term → Type 0
IsWeighting w terms = is_weighting w.sorts.now terms w.multipliers.now w.literals.now ≡ true

-- the row of `linear`, and where it leaves 128 bits
abbrev pub IsLinearOf : Weights → List Term → Type 0
IsLinearOf w terms = IsLinear w.sorts.now terms w.multipliers.now w.literals.now

abbrev pub LinearLeavesOf : Weights → List Term → Wide → Type 0
LinearLeavesOf w terms x = LinearLeaves w.sorts.now terms w.multipliers.now w.literals.now x

-- the sums agree with the target at each unit of the literals' bounds
abbrev pub AgreeAll : Weights → List Term → Target → Type 0
AgreeAll w terms g = Agree w terms g (all_units w.sorts.now terms (weighted w))
