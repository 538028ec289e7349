-- A claim that is being made, and a formula that a walk makes aside, in code as nodes of a graph. Own.
use Rattle.std.specs.Prelude.{◌≡◌, ℕ, List}
use Rattle.terms.specs.declared.term.Term.{Term}
use Rattle.terms.specs.Formula.{Formula}
use Rattle.conditions.specs.Actions as actions
use Rattle.condition_formulas.specs.Standing.{StandsAs, StandAll, Later}
use Rattle.condition_code.specs.declared.walk.Walk.{Walk}
use Rattle.condition_stores.specs.Places.{IsPlace}
use Rattle.condition_claims.specs.declared.claims.Draft.{Draft}

-- the claim, its objects, where its value goes, and the heap before it
pub record IsDraft (ts : List Term) (d : Draft) (c : Formula) (os : List Formula) (q : actions.Place) (h : Formula) : Type 0 where
  pub claim_is : StandsAs ts d.claim c
  pub objects_are : StandAll ts d.objects.now os
  pub place_is : IsPlace ts d.place q
  pub heap_is : StandsAs ts d.heap h

-- the walk's graph has the formula besides, and its path is as it was
pub record Adds (old new : Walk) (id : ℕ) (f : Formula) : Type 0 where
  pub later : Later old.graph new.graph
  pub path : new.path.items ≡ old.path.items
  pub stands : StandsAs new.graph id f
