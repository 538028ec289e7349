-- The conditions of a path, given one by one. Own.
use Rattle.std.specs.Prelude.{◌≡◌, ℕ, List, [], ◌∷◌, drop, reverse, Option, Some, None}
use Rattle.terms.specs.declared.term.Term.{Term}
use Rattle.terms.specs.Formula.{Formula}
use Rattle.condition_formulas.specs.Standing.{StandsAs, StandAll}
use Rattle.condition_code.specs.declared.walk.Step.{Step}
use Rattle.condition_code.specs.declared.emitter.Emitter.{Emitter}
use Rattle.condition_code.specs.Steps.{FormulaStep, conditions_left}
use Rattle.condition_code.specs.Walks.{StandSteps}

-- at this place of the path, with these facts and marks, these conditions are left
pub record Leaves (ts : List Term) (at : ℕ) (ids marks : List ℕ) (path : List Step) (fs : List Formula) : Type 0 where
  pub known : List Formula
  pub steps : List FormulaStep
  pub known_are : StandAll ts ids known
  pub steps_are : StandSteps ts (drop at path) steps
  pub left : fs ≡ conditions_left known (reverse marks) steps

-- these conditions are still to be given
abbrev pub Holds : List Term → Emitter → List Step → List Formula → Type 0
Holds ts e path fs = Leaves ts e.at e.known.items e.marks.items path fs

-- this is the first of the conditions, and the rest is still to be given
pub record First (ts : List Term) (e : Emitter) (path : List Step) (id : ℕ) (fs : List Formula) : Type 0 where
  pub condition : Formula
  pub rest : List Formula
  pub conditions : fs ≡ condition ∷ rest
  pub stands : StandsAs ts id condition
  pub holds : Holds ts e path rest

-- the answer is the first condition, or there is none
abbrev pub Answers : List Term → Emitter → List Step → Option ℕ → List Formula → Type 0
Answers ts e path None fs = fs ≡ []
Answers ts e path (Some id) fs = First ts e path id fs

-- of these conditions the answer is the first, and the rest is left; or they are all left
abbrev pub Given : List Term → Option ℕ → List Formula → List Formula → Type 0
Given ts None all rest = all ≡ rest
Given ts (Some id) all rest = (f : Formula) × (all ≡ f ∷ rest) × StandsAs ts id f

-- a step further, with these facts and marks before and behind: the answer is its condition
pub record Passes (ts : List Term) (before ids behind : List ℕ) (known : List Formula) (d : FormulaStep) (o : Option ℕ) : Type 0 where
  pub next : List Formula
  pub next_are : StandAll ts ids next
  pub given : (ds : List FormulaStep) → Given ts o (conditions_left known (reverse before) (d ∷ ds)) (conditions_left next (reverse behind) ds)
