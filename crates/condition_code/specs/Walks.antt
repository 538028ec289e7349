-- What a walk of code has written, as a path of formulas. Own.
use Rattle.std.specs.Prelude.{◌≡◌, ℕ, List, [], ◌∷◌, ◌++◌, Vec}
use Rattle.std.specs.Global.{Global}
use Rattle.terms.specs.declared.term.Term.{Term}
use Rattle.terms.specs.Formula.{Formula}
use Rattle.conditions.specs.Paths.{Path, Execution}
use Rattle.condition_formulas.specs.Standing.{StandsAs, StandAll, Later}
use Rattle.condition_code.specs.declared.walk.Step.{Step}
use Rattle.condition_code.specs.declared.walk.Step.TheVariants as code
use Rattle.condition_code.specs.declared.walk.Walk.{Walk}
use Rattle.condition_code.specs.Steps.{FormulaStep, Checked, Known, Alone, Entered, Left, steps_of}

-- of one kind, and the node is the formula
abbrev pub Alike : List Term → Step → FormulaStep → Type 0
Alike ts (code.Check id) (Checked f) = StandsAs ts id f
Alike ts (code.Fact id) (Known f) = StandsAs ts id f
Alike ts (code.Standalone id) (Alone f) = StandsAs ts id f
Alike ts code.Enter Entered = Unit {0}
Alike ts code.Leave Left = Unit {0}
Alike ts _ _ = ⊥

-- the code's step is the definition's
pub record IsStep (ts : List Term) (c : Step) (d : FormulaStep) : Type 0 where
  pub is : Alike ts c d

abbrev pub EachStep : List Term → List Step → List FormulaStep → Type 0
EachStep ts [] [] = Unit {0}
EachStep ts [] (d ∷ ds) = ⊥
EachStep ts (c ∷ cs) [] = ⊥
EachStep ts (c ∷ cs) (d ∷ ds) = IsStep ts c d × EachStep ts cs ds

-- one by one
pub record StandSteps (ts : List Term) (cs : List Step) (ds : List FormulaStep) : Type 0 where
  pub each : EachStep ts cs ds

-- from a graph and steps to others by a path: what stood stands, and the path's steps are behind those before
pub record Goes (old new : List Term) (before behind : List Step) (q : Path) : Type 0 where
  pub later : Later old new
  pub more : List Step
  pub path : behind ≡ before ++ more
  pub steps : StandSteps new more (steps_of q)

-- the walk went on by this path, and what stood stands
abbrev pub Went : Walk → Walk → Path → Type 0
Went old new q = Goes old.graph new.graph old.path.items new.path.items q

-- it goes by the execution's path, and v stands for what that gives
pub record GoesTo {A B : Type 0} (Is : List Term → A → B → Type 0) (old new : List Term) (before behind : List Step) (v : A) (t : Execution B) : Type 0 where
  pub gives : Is new v t.gives
  pub goes : Goes old new before behind t.path

-- the walk went on as the execution does, and what it came to stands for what that gives
abbrev pub Ran : {A B : Type 0} → (List Term → A → B → Type 0) → Walk → Walk → A → Execution B → Type 0
Ran Is old new v t = GoesTo Is old.graph new.graph old.path.items new.path.items v t

-- nothing but this mark was written
pub record Marks (mark : Step) (old new : Walk) : Type 0 where
  pub graph : new.graph ≡ old.graph
  pub path : new.path.items ≡ old.path.items ++ mark ∷ []

-- the numbers are the formulas
pub record AreIds (ts : List Term) (ids : Vec ℕ Global) (fs : List Formula) : Type 0 where
  pub all : StandAll ts ids.items fs
