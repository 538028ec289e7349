-- Where a value goes, in code as nodes of a graph. Own.
use Rattle.std.specs.Prelude.{◌≡◌, List}
use Rattle.terms.specs.declared.term.Term.{Term}
use Rattle.conditions.specs.Actions as spec
use Rattle.condition_formulas.specs.Standing.{StandsAs}
use Rattle.condition_stores.specs.declared.place.Place.{Place}
use Rattle.condition_stores.specs.declared.place.Place.TheVariants as code

-- of one kind, and the node is the object
abbrev pub SamePlace : List Term → Place → spec.Place → Type 0
SamePlace ts (code.Local i) (spec.InLocal j) = i ≡ j
SamePlace ts (code.Local i) (spec.InField x g) = ⊥
SamePlace ts (code.Field o f) (spec.InLocal j) = ⊥
SamePlace ts (code.Field o f) (spec.InField x g) = StandsAs ts o x × (f ≡ g)

-- the code's place is the definition's
pub record IsPlace (ts : List Term) (c : Place) (q : spec.Place) : Type 0 where
  pub is : SamePlace ts c q
