-- Formulas, and lists of them, as nodes of a graph. Own: records, so that a proof goes from node to node and never into a tree.
use Rattle.std.specs.Prelude.{ℕ, List, [], ◌∷◌}
use Rattle.terms.specs.declared.term.Term.{Term}
use Rattle.terms.specs.Formula.{Formula, Stands}

-- the node with this number is this tree
pub record StandsAs (ts : List Term) (id : ℕ) (f : Formula) : Type 0 where
  pub tree : Stands ts id f

abbrev pub Each : List Term → List ℕ → List Formula → Type 0
Each ts [] [] = Unit {0}
Each ts [] (f ∷ fs) = ⊥
Each ts (id ∷ ids) [] = ⊥
Each ts (id ∷ ids) (f ∷ fs) = StandsAs ts id f × Each ts ids fs

-- the nodes with these numbers are these trees, one by one
pub record StandAll (ts : List Term) (ids : List ℕ) (fs : List Formula) : Type 0 where
  pub each : Each ts ids fs

-- what stood stands
abbrev pub Later : List Term → List Term → Type 0
Later old new = (n : ℕ) (f : Formula) → StandsAs old n f → StandsAs new n f
