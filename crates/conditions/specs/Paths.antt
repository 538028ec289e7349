-- Code as a path of checks and facts. From Flanagan and Saxe, and Barnett and Leino (weakest preconditions of unstructured programs): code without assignments, whose values are constants that are made on the way. Own: a path stands beside what the code along it gives, and is put together by the same words as a run (Expressions of method).
use Rattle.std.specs.Prelude.{ℕ, suc, ◌+◌, List, [], ◌∷◌, ◌++◌}
use Rattle.terms.specs.Formula.{Formula}
use Rattle.conditions.specs.Formulas.{imp, all_of}

-- `Check`: a formula is checked, and is a fact from there on. `Fact`: a formula is a fact. `Branch`: a way that code may take, whose facts end with it. `Standalone`: a formula is checked by itself, without the facts before it.
pub data Path : Type 0 where
  Done : Path
  Check : Formula → Path → Path
  Fact : Formula → Path → Path
  Branch : Path → Path → Path
  Standalone : Formula → Path → Path

-- one path and then the other
abbrev pub sequence : Path → Path → Path
sequence Done r = r
sequence (Check f q) r = Check f (sequence q r)
sequence (Fact f q) r = Fact f (sequence q r)
sequence (Branch b q) r = Branch b (sequence q r)
sequence (Standalone f q) r = Standalone f (sequence q r)

-- what is known at the end
abbrev pub facts : Path → List Formula
facts Done = []
facts (Check f q) = f ∷ facts q
facts (Fact f q) = f ∷ facts q
facts (Branch b q) = facts q
facts (Standalone f q) = facts q

-- each check where f is true
abbrev pub guarded : Formula → Path → Path
guarded f Done = Done
guarded f (Check g q) = Check (imp f g) (guarded f q)
guarded f (Fact g q) = Fact g (guarded f q)
guarded f (Branch b q) = Branch (guarded f b) (guarded f q)
guarded f (Standalone g q) = Standalone g (guarded f q)

-- how many checks stand there
abbrev pub checks : Path → ℕ
checks Done = 0
checks (Check f q) = suc (checks q)
checks (Fact f q) = checks q
checks (Branch b q) = checks b + checks q
checks (Standalone f q) = suc (checks q)

-- the conditions of a path, behind these facts: for each check, that the facts on the way to it give it
abbrev pub conditions : List Formula → Path → List Formula
conditions known Done = []
conditions known (Check f q) = imp (all_of known) f ∷ conditions (known ++ f ∷ []) q
conditions known (Fact f q) = conditions (known ++ f ∷ []) q
conditions known (Branch b q) = conditions known b ++ conditions known q
conditions known (Standalone f q) = f ∷ conditions known q

-- a path, and what the code along it gives
pub record Execution (A : Type 0) : Type 0 where
  pub path : Path
  pub gives : A

-- code that checks nothing and gives a
abbrev pub Gives : {A : Type 0} → A → Execution A
Gives {A} a = record { path = Done; gives = a }

-- the path comes before the code's own
abbrev pub prefix : {A : Type 0} → Path → Execution A → Execution A
prefix q t = record { path = sequence q t.path; gives = t.gives }

-- a piece of code and then another, which takes what the first gives
abbrev pub after : {A B : Type 0} → Execution A → (A → Execution B) → Execution B
after t f = prefix t.path (f t.gives)

-- a check before it
abbrev pub check : {A : Type 0} → Formula → Execution A → Execution A
check f t = record { path = Check f t.path; gives = t.gives }

-- checks before it, in their order
abbrev pub check_each : {A : Type 0} → List Formula → Execution A → Execution A
check_each [] t = t
check_each (f ∷ fs) t = check f (check_each fs t)

-- a fact before it
abbrev pub fact : {A : Type 0} → Formula → Execution A → Execution A
fact f t = record { path = Fact f t.path; gives = t.gives }

-- facts before it
abbrev pub all_facts : {A : Type 0} → List Formula → Execution A → Execution A
all_facts [] t = t
all_facts (f ∷ fs) t = fact f (all_facts fs t)

-- a branch before it
abbrev pub branch : {A : Type 0} → Path → Execution A → Execution A
branch q t = record { path = Branch q t.path; gives = t.gives }

-- a check by itself before it
abbrev pub standalone : {A : Type 0} → Formula → Execution A → Execution A
standalone f t = record { path = Standalone f t.path; gives = t.gives }

-- its checks where f is true
abbrev pub guard : {A : Type 0} → Formula → Execution A → Execution A
guard f t = record { path = guarded f t.path; gives = t.gives }
