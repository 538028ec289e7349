-- A way that code may take, in code: how it begins, and what it comes to. Own.
use Rattle.std.specs.Prelude.{◌≡◌, ℕ, List, [], ◌∷◌, ◌++◌, length}
use Rattle.terms.specs.declared.term.Term.{Term}
use Rattle.terms.specs.Formula.{Formula}
use Rattle.conditions.specs.Code as spec
use Rattle.conditions.specs.Paths.{Fact, Branch, Done, Execution, facts}
use Rattle.condition_formulas.specs.Standing.{StandsAs, StandAll, Later}
use Rattle.condition_code.specs.declared.walk.Step.TheVariants.{Fact as Fact', Enter}
use Rattle.condition_code.specs.declared.walk.Walk.{Walk}
use Rattle.condition_code.specs.States.{IsState}
use Rattle.condition_code.specs.Walks.{Went}
use Rattle.condition_branches.specs.declared.ways.Way.{Way}

-- behind the start a way is entered, on which f is the first fact; the path goes on from this place
pub record Begins (start behind : Walk) (from : ℕ) (f : Formula) : Type 0 where
  pub test : ℕ
  pub later : Later start.graph behind.graph
  pub stands : StandsAs behind.graph test f
  pub path : behind.path.items ≡ start.path.items ++ Enter ∷ Fact' test ∷ []
  pub place : length behind.path.items ≡ from

-- the way came to the execution's state, and these are its facts
pub record IsWay (ts : List Term) (c : Way) (x : Execution spec.State) : Type 0 where
  pub state : IsState ts c.state x.gives
  pub facts : StandAll ts c.facts.items (facts x.path)

-- the way is gone, whose first fact is f: the walk went on by a branch, and this is what it came to
pub record EndsWay (start behind : Walk) (c : Way) (f : Formula) (x : Execution spec.State) : Type 0 where
  pub went : Went start behind (Branch (Fact f x.path) Done)
  pub way : IsWay behind.graph c x
