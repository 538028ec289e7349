-- Terms that are comparisons.
use Rattle.std.specs.Prelude.{◌≡◌, ℕ, ℤ, pos, List, Some}
use Rattle.terms.specs.declared.term.Term.{Term}
use Rattle.rule_linear.specs.declared.split.Comparison.{Comparison}
use Rattle.rule_linear.specs.Rows.{compared}

-- the number names a term that is a comparison with these sides
pub record IsComparison (terms : List Term) (number : ℤ) (c : Comparison) : Type 0 where
  pub named : number ≡ pos c.term
  pub sides_are : compared terms c.term ≡ Some (c.left, c.right)

-- the number names no comparison
abbrev pub NamesNone : List Term → ℤ → Type 0
NamesNone terms number = (t a b : ℕ) → number ≡ pos t → compared terms t ≡ Some (a, b) → ⊥
