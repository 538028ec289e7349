-- Tables of rows. Own.
use Rattle.std.specs.Prelude.{◌≡◌, ℕ, ℤ, List, [], Option, Some, None, option_and_then}
use Rattle.axiom_instances.specs.Axioms.{item_at}
use Rattle.axiom_steps.specs.declared.steps.Step.{Step}
use Rattle.axiom_steps.specs.Steps.{natural}

-- the steps, none where there are none
abbrev pub or_none : Option (List Step) → List Step
or_none None = []
or_none (Some steps) = steps

-- the steps of an axiom's part, both counted from 1
abbrev pub steps_at : List (List (List Step)) → ℕ → ℕ → List Step
steps_at axioms n part = or_none (option_and_then (λ parts. item_at parts part) (item_at axioms n))

-- the steps are those of the part
pub record IsPart (axioms : List (List (List Step))) (n part : ℤ) (steps : List Step) : Type 0 where
  pub is : steps ≡ steps_at axioms (natural n) (natural part)
