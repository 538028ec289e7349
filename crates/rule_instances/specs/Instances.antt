-- What instances are, as nodes of a graph. Own.
use Rattle.std.specs.Prelude.{◌≡◌, ℕ, ℤ, List, Option, Some, None, MatchOption}
use Rattle.terms.specs.declared.term.Term.{Term}
use Rattle.terms.specs.Formula.{Formula}
use Rattle.term_meaning.specs.Meaning.{Language}
use Rattle.condition_formulas.specs.Standing.{StandsAs}
use Rattle.axiom_steps.specs.declared.steps.Step.{Step}
use Rattle.axiom_steps.specs.Steps.{run, start, at, instance_at}
use Rattle.rule_instances.specs.declared.block.Block.{Block}
use Rattle.rule_instances.specs.Reading.{IsBlock}

-- the node is the formula, none where there is none
pub record IsInstance (ts : List Term) (id : Option ℕ) (formula : Option Formula) : Type 0 where
  pub is : MatchOption id (formula ≡ None) (λ n. (f : Formula) × (formula ≡ Some f) × StandsAs ts n f)

-- what the steps make of the numbers, in every language that the block is of
abbrev pub Runs : Block → List Step → List Term → List Term → List ℤ → Option ℕ → Type 0
Runs block steps ts now numbers id =
    (l : Language) (tree : ℕ → Option Formula) → IsBlock block ts l tree → IsInstance now id (at (run l tree steps start) numbers)

-- the instance of the axiom's part for these numbers, in every language that the block is of
abbrev pub Instantiates : Block → List Term → List Term → ℤ → ℤ → List ℤ → Option ℕ → Type 0
Instantiates block ts now axiom_number part numbers id =
    (l : Language) (tree : ℕ → Option Formula) → IsBlock block ts l tree → IsInstance now id (instance_at l tree axiom_number part numbers)
