-- What the code goes through: one step for each part of a form.
use Rattle.std.specs.Prelude.{ℕ, ◌≡◌, ◌⊎◌, [], ◌∷◌, ◌+◌, get_or, false, pos, ◌++◌, List, [], map, take, Option, Some, ℤ, ◌+ℤ◌, ◌*ℤ◌, FitsSigned}
use Rattle.std.specs.Int.{w128}
use Rattle.terms.specs.declared.term.Term.{Term}
use Rattle.terms.specs.declared.sort.Sort.{Sort}
use Rattle.rule_linear.specs.declared.form.Part.{Part}
use Rattle.rule_linear.specs.declared.form.Part.TheVariants.{Coefficient}
use Rattle.rule_linear.specs.declared.bound.Weights.{Weights}
use Rattle.rule_linear.specs.declared.bound.Bound.{Bound}
use Rattle.rule_linear.specs.declared.steps.Job.{Job}
use Rattle.rule_linear.specs.declared.steps.Job.TheVariants.{Combine, Multiply, Add}
use Rattle.rule_linear.specs.Below.{IsBelow}
use Rattle.rule_linear.specs.Forms.{Sum, Step, number_of, units, parts, plus, times, steps, step_at, of_shape, sum_at, AllFit}
use Rattle.rule_linear.specs.Bounds.{Weighted, bound_at, bound_number, bound_steps, total, added_steps, total_steps}
use Rattle.rule_linear.specs.Sides.{AreWithin, weighted, first_total}

-- the step of a job at a part
abbrev pub step_of : List (Option Sort) → List Term → List Weighted → Job → Part → Step
step_of sorts terms before (Combine h) p = step_at (of_shape (sum_at terms) 0 h) p
step_of sorts terms before (Multiply m b) p = times m (bound_number terms b p)
step_of sorts terms before (Add m b) p = plus (total sorts terms before p) (m *ℤ bound_number terms b p)

-- the same of the code's weights, of which the first were added up
abbrev pub job_step : Weights → List Term → ℕ → Job → Part → Step
job_step w terms end job = step_of w.sorts.now terms (take end (weighted w)) job

-- the steps of a job at units, and at the parts of a form with these units
abbrev pub unit_steps : Weights → List Term → ℕ → Job → List ℕ → List Step
unit_steps w terms end job us = map (job_step w terms end job) (map Coefficient us)

abbrev pub part_steps : Weights → List Term → ℕ → Job → List ℕ → List Step
part_steps w terms end job us = map (job_step w terms end job) (parts us)

-- what a job names are terms
abbrev pub IsJobWithin : ℕ → Job → Type 0
IsJobWithin n (Combine h) = IsBelow n h
IsJobWithin n (Multiply m b) = AreWithin n b
IsJobWithin n (Add m b) = AreWithin n b

-- both operands are numbers of 128 bits
pub record IsExact (s : Step) : Type 0 where
  pub left : FitsSigned w128 s.left
  pub right : FitsSigned w128 s.right

-- the form of the sum is worked out, and each of its numbers is one of 128 bits
pub record IsKnown (s : Sum) : Type 0 where
  pub fit : AllFit (steps s)
  pub known : (p : Part) → FitsSigned w128 (number_of s p)

-- the same of a bound
pub record IsBoundKnown (terms : List Term) (b : Bound) : Type 0 where
  pub fit : AllFit (bound_steps terms b)
  pub known : (p : Part) → FitsSigned w128 (bound_number terms b p)

-- the same of these steps and what they come to
pub record AreKnown (ss : List Step) (f : Part → ℤ) : Type 0 where
  pub fit : AllFit ss
  pub known : (p : Part) → FitsSigned w128 (f p)

-- the operands of a job are numbers of 128 bits
abbrev pub AreExact : Weights → List Term → ℕ → Job → Type 0
AreExact w terms end job = (p : Part) → IsExact (job_step w terms end job p)

-- the sums of the first multiples are numbers of 128 bits
abbrev pub IsTotalKnown : Weights → List Term → ℕ → Type 0
IsTotalKnown w terms end = (p : Part) → FitsSigned w128 (first_total w terms end p)

-- the units of two terms
abbrev pub units_of_two : List Term → ℕ → ℕ → List ℕ
units_of_two terms a b = units (sum_at terms a) ++ units (sum_at terms b)

-- the steps by which a multiple of the bound is added to the first multiples
abbrev pub more_steps : Weights → List Term → ℕ → ℤ → Bound → List Step
more_steps w terms end m b = added_steps w.sorts.now terms (take end (weighted w)) m (Some b)

-- they fit, and all numbers of the new sum do
abbrev pub IsMoreKnown : Weights → List Term → ℕ → ℤ → Bound → Type 0
IsMoreKnown w terms end m b = AreKnown (more_steps w terms end m b) (λ p. first_total w terms end p +ℤ m *ℤ bound_number terms b p)

-- the steps for all literals
abbrev pub all_steps : Weights → List Term → List Step
all_steps w terms = total_steps w.sorts.now terms [] (weighted w)

-- they fit, and all numbers of the whole sum do
abbrev pub IsAllKnown : Weights → List Term → Type 0
IsAllKnown w terms = AreKnown (all_steps w terms) (total w.sorts.now terms (weighted w))

-- the steps for the literal at a place
abbrev pub literal_steps : Weights → List Term → ℕ → List Step
literal_steps w terms i =
    added_steps w.sorts.now terms (take i (weighted w)) (get_or w.multipliers.now i (pos 0)) (bound_at w.sorts.now terms (get_or w.literals.now i (record { term = 0; positive = false })))

-- they fit, and all numbers of the sum with this literal do
abbrev pub IsNextKnown : Weights → List Term → ℕ → Type 0
IsNextKnown w terms i = AreKnown (literal_steps w terms i) (first_total w terms (i + 1))

-- the unit stands among these
abbrev pub IsIn : ℕ → List ℕ → Type 0
IsIn u [] = ⊥
IsIn u (v ∷ vs) = (v ≡ u) ⊎ IsIn u vs

-- at a unit that doesn't stand in the term, the result of the job fits
abbrev pub FitElsewhere : Weights → List Term → Job → ℕ → Type 0
FitElsewhere w terms job t = (u : ℕ) → FitsSigned w128 (job_step w terms 0 job (Coefficient u)).result ⊎ IsIn u (units (sum_at terms t))
