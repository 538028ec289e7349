-- Formulas whose constants are renumbered, in code as nodes of a graph. Own.
use Rattle.std.specs.Prelude.{◌≡◌, ℕ, ℤ, if◌then◌else◌, List, Option, Some, None, slice_index_or}
use Rattle.terms.specs.declared.term.Term.{Term}
use Rattle.terms.specs.declared.term.Kind.{Kind}
use Rattle.terms.specs.Formula.{Formula}
use Rattle.conditions.specs.Formulas.{is_constant}
use Rattle.conditions.specs.Quantified.{place_number, renumber}
use Rattle.condition_formulas.specs.Standing.{StandsAs}

-- the index of a node; of a constant the place of its number
abbrev pub index_by_place : List ℕ → Kind → ℤ → ℤ
index_by_place places kind n = if is_constant kind then place_number places n else n

-- the node `new` is the renumbered tree of the node `id`
pub record Renumbered (ts : List Term) (places : List ℕ) (id new : ℕ) : Type 0 where
  pub tree : Formula
  pub before : StandsAs ts id tree
  pub behind : StandsAs ts new (renumber places tree)

-- what nodes have become, where that is known
pub record AreRenumbered (ts : List Term) (places : List ℕ) (known : List (Option ℕ)) : Type 0 where
  pub at : (id new : ℕ) → slice_index_or known id None ≡ Some new → Renumbered ts places id new
