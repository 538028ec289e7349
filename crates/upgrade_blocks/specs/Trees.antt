-- What putting the terms of a block answers. Own.
use Rattle.std.specs.Prelude.{◌≡◌, ℕ, Bool, true, false, List, [], Option, Some, None, option_and_then}
use Rattle.terms.specs.declared.term.Term.{Term}
use Rattle.terms.specs.Formula.{Formula}
use Rattle.term_meaning.specs.Meaning.{Language}
use Rattle.condition_formulas.specs.Standing.{StandAll}
use Rattle.block_layout.specs.Trees.{tree_over, sorted_tree}
use Rattle.certificate_upgrade.specs.Conclusions.{trees_from}

-- the trees stand at the names, where there are any
abbrev pub PutsAll : List Term → List ℕ → Option (List Formula) → Bool → Type 0
PutsAll ts names trees true = (fs : List Formula) × (trees ≡ Some fs) × StandAll ts names fs
PutsAll ts names trees false = trees ≡ None

-- the trees of a condition's own terms, and behind them those of the added ones
abbrev pub own_then : Language → List Term → List Term → Option (List Formula)
own_then l own added = option_and_then (λ first. trees_from (sorted_tree l) first added) (trees_from tree_over [] own)
