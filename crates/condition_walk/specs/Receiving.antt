-- Where a call's value goes, and what new values come to, in code as nodes of a graph. Own.
use Rattle.std.specs.Prelude.{List, Option, Some, None}
use Rattle.terms.specs.declared.term.Term.{Term}
use Rattle.conditions.specs.Actions as actions
use Rattle.condition_formulas.specs.Symbolics.{AreSymbolic}
use Rattle.condition_code.specs.States.{IsState}
use Rattle.condition_stores.specs.declared.place.Place.{Place}
use Rattle.condition_stores.specs.Places.{IsPlace}
use Rattle.condition_walk.specs.declared.entry.Arguments.{Arguments}

-- a place, or none
abbrev pub SamePlaces : List Term → Option Place → Option actions.Place → Type 0
SamePlaces ts None None = Unit {0}
SamePlaces ts None (Some q) = ⊥
SamePlaces ts (Some c) None = ⊥
SamePlaces ts (Some c) (Some q) = IsPlace ts c q

pub record IsReceiving (ts : List Term) (c : Option Place) (q : Option actions.Place) : Type 0 where
  pub is : SamePlaces ts c q

-- values, and the state where their constants are made
pub record AreArguments (ts : List Term) (c : Arguments) (r : actions.ValuesAndState) : Type 0 where
  pub values_are : AreSymbolic ts c.values.items r.values
  pub state_is : IsState ts c.state r.state
