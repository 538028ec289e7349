-- A path as one list of steps, and its conditions by what is left of the list. Own: the two marks around a branch stand for its tree.
use Rattle.std.specs.Prelude.{ℕ, List, [], ◌∷◌, ◌++◌, take, length}
use Rattle.terms.specs.Formula.{Formula}
use Rattle.conditions.specs.Formulas.{imp, all_of}
use Rattle.conditions.specs.Paths.{Path, Done, Check, Fact, Branch, Standalone}

-- `Checked`: checked, and then a fact. `Known`: a fact. `Alone`: checked by itself. `Entered` and `Left`: around a way that may be gone.
pub data FormulaStep : Type 0 where
  Checked : Formula → FormulaStep
  Known : Formula → FormulaStep
  Alone : Formula → FormulaStep
  Entered : FormulaStep
  Left : FormulaStep

-- a path as one list, each branch between two marks
abbrev pub steps_of : Path → List FormulaStep
steps_of Done = []
steps_of (Check f q) = Checked f ∷ steps_of q
steps_of (Fact f q) = Known f ∷ steps_of q
steps_of (Branch b q) = (Entered ∷ steps_of b) ++ Left ∷ steps_of q
steps_of (Standalone f q) = Alone f ∷ steps_of q

-- a check where f is true
abbrev pub guard_step : Formula → FormulaStep → FormulaStep
guard_step f (Checked g) = Checked (imp f g)
guard_step f (Known g) = Known g
guard_step f (Alone g) = Alone g
guard_step f Entered = Entered
guard_step f Left = Left

-- checks in their order
abbrev pub all_checks : List Formula → Path
all_checks [] = Done
all_checks (f ∷ fs) = Check f (all_checks fs)

-- facts in their order
abbrev pub facts_of : List Formula → Path
facts_of [] = Done
facts_of (f ∷ fs) = Fact f (facts_of fs)

-- what was known where the innermost way that is gone was entered
abbrev pub known_before : {A : Type 0} → List ℕ → List A → List A
known_before [] known = known
known_before (n ∷ marks) known = take n known

-- the marks around that way
abbrev pub marks_around : List ℕ → List ℕ
marks_around [] = []
marks_around (n ∷ marks) = marks

-- the conditions of the steps left, behind these facts; and how many were known where each way that is gone was entered, the innermost first
abbrev pub conditions_left : List Formula → List ℕ → List FormulaStep → List Formula
conditions_left known marks [] = []
conditions_left known marks (Checked f ∷ steps) = imp (all_of known) f ∷ conditions_left (known ++ f ∷ []) marks steps
conditions_left known marks (Known f ∷ steps) = conditions_left (known ++ f ∷ []) marks steps
conditions_left known marks (Alone f ∷ steps) = f ∷ conditions_left known marks steps
conditions_left known marks (Entered ∷ steps) = conditions_left known (length known ∷ marks) steps
conditions_left known marks (Left ∷ steps) = conditions_left (known_before marks known) (marks_around marks) steps
