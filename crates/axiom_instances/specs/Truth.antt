-- The law of the axioms. From first-order logic: an axiom is valid.
use Rattle.std.specs.Prelude.{◌≡◌, ℕ, List, Option, Some}
use Rattle.terms.specs.Formula.{Formula}
use Rattle.term_meaning.specs.Meaning.{Language, IsFaithful, IsValid}
use Rattle.term_meaning.specs.Filling.{IsLayered}
use Rattle.axiom_instances.specs.Axioms.{instance}

-- Each instance of an axiom is true in every environment of the program, if annotations' formulas stand in order and say what the annotations say.
abbrev pub AxiomsAreTrue : Type 0
AxiomsAreTrue = (l : Language) → IsLayered l → IsFaithful l →
    (tree : ℕ → Option Formula) (number part : ℕ) (args : List ℕ) (f : Formula) →
    instance l tree number part args ≡ Some f → IsValid l f
