-- Which conditions of a program are still to be given. Own.
use Rattle.std.specs.Prelude.{◌≡◌, ℕ, List, ◌∷◌, [], ◌++◌, drop, flat_map, Option, Some, None}
use Rattle.terms.specs.Formula.{Formula}
use Rattle.method.specs.declared.program.Program.{Program}
use Rattle.conditions.specs.Conditions.{item_conditions}
use Rattle.condition_formulas.specs.Standing.{StandsAs}
use Rattle.condition_code.specs.Emitters.{Holds}
use Rattle.vcc_judge.specs.declared.sequence.ItemConditions.{ItemConditions}
use Rattle.vcc_judge.specs.declared.sequence.Conditions.{Conditions}

-- these conditions of an item
abbrev pub Remain : ItemConditions → List Formula → Type 0
Remain c fs = Holds c.graph c.emitter c.path.items fs

-- the conditions of the items from this place on
abbrev pub formulas_from : Program → ℕ → List Formula
formulas_from p n = flat_map (item_conditions p) (drop n p.items.items)

-- these conditions of the program: those left of an item, and those of the items behind it
pub record Remains (p : Program) (c : Conditions) (fs : List Formula) : Type 0 where
  pub here : List Formula
  pub remain : Remain c.current here
  pub left : fs ≡ here ++ formulas_from p c.place

-- The node is the first of these conditions, and the rest is still to be given.
pub record IsFirst (p : Program) (c : Conditions) (id : ℕ) (fs : List Formula) : Type 0 where
  pub condition : Formula
  pub rest : List Formula
  pub conditions : fs ≡ condition ∷ rest
  pub stands : StandsAs c.current.graph id condition
  pub remains : Remains p c rest

-- the node is the first of these conditions, or there is none
abbrev pub IsNext : Program → Conditions → Option ℕ → List Formula → Type 0
IsNext p c None fs = fs ≡ []
IsNext p c (Some id) fs = IsFirst p c id fs
