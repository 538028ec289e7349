-- The path of an item of a program. Own: the two conditions of a type stand alone on theirs.
use Rattle.std.specs.Prelude.{◌≡◌, List, []}
use Rattle.terms.specs.Formula.{Formula}
use Rattle.conditions.specs.Paths.{Path, conditions}
use Rattle.condition_code.specs.declared.walk.Walk.{Walk}
use Rattle.condition_code.specs.Walks.{Went}

-- the walk went on by a path with these conditions
pub record WentBy (old new : Walk) (fs : List Formula) : Type 0 where
  pub path : Path
  pub went : Went old new path
  pub conditions : conditions [] path ≡ fs
