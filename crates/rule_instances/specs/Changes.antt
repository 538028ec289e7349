-- Terms that open or close an object, by the numbers of nodes. Own.
use Rattle.std.specs.Prelude.{◌≡◌, ℕ, pos, List, [], ◌∷◌, Some}
use Rattle.terms.specs.declared.term.Term.{Term}
use Rattle.terms.specs.Formula.{Formula}
use Rattle.axiom_instances.specs.Terms.{kind_of, arguments_of}
use Rattle.axiom_instances.specs.Axioms.{StatusChange, change_of}
use Rattle.condition_formulas.specs.Standing.{StandsAs}
use Rattle.rule_instances.specs.declared.changes.Change.{Change}
use Rattle.rule_instances.specs.declared.changes.Three.{Three}

-- the numbers are these three
pub record AreThree (t : Three) (numbers : List ℕ) : Type 0 where
  pub are : numbers ≡ t.first ∷ t.second ∷ t.third ∷ []

-- the nodes are what the formula changes
pub record IsChange (ts : List Term) (c : Change) (f : Formula) : Type 0 where
  pub change : StatusChange
  pub is : change_of (kind_of f) (arguments_of f) ≡ Some change
  pub heap : StandsAs ts c.heap change.heap
  pub object : StandsAs ts c.object change.object
  pub owner : StandsAs ts c.owner change.owner
  pub mode : pos c.mode ≡ change.mode
