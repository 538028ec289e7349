-- The state of the code is a row's, and what one step makes of it. Own.
use Rattle.std.specs.Prelude.{◌≡◌, ◌<◌, ◌^◌, ℕ, ℤ, Bool, MatchBool, List, ◌∷◌, Option, Some, None}
use Rattle.terms.specs.declared.term.Term.{Term}
use Rattle.terms.specs.Formula.{Formula}
use Rattle.term_meaning.specs.Meaning.{Language}
use Rattle.condition_formulas.specs.Standing.{StandAll}
use Rattle.method.specs.declared.program.Program.{Program}
use Rattle.axiom_steps.specs.declared.steps.Step.{Step}
use Rattle.rule_instances.specs.declared.walk.State.{State as Code}
use Rattle.rule_instances.specs.Columns.{seen}
use Rattle.rule_instances.specs.Annotations.{IsBody}
use Rattle.rule_instances.specs.declared.block.Block.{Block}
use Rattle.rule_instances.specs.Reading.{IsBlock}
use Rattle.axiom_steps.specs.declared.steps.Test.{Test}
use Rattle.term_meaning.specs.Filling.{fill}
use Rattle.axiom_steps.specs.Steps.{State, replace, passes, run, at}

-- the code's numbers are those of nodes that are the state's formulas, and all else is the same
pub record Matches (ts : List Term) (c : Code) (st : State) : Type 0 where
  pub terms : StandAll ts c.terms.items st.terms
  pub writes : StandAll ts c.writes.items st.writes
  pub keys : StandAll ts c.keys.items st.keys
  pub ty : c.ty ≡ st.ty
  pub number : c.number ≡ st.number
  pub place : seen c.column ≡ st.place
  pub declared : c.declared ≡ st.declared
  pub body : IsBody c.body st.body
  pub small_type : c.ty < 2 ^ 127
  pub small_number : c.number < 2 ^ 127

-- the step goes on to the next state, with these numbers left
pub record Goes (l : Language) (tree : ℕ → Option Formula) (step : Step) (ts : List Term) (c : Code) (old new : List ℤ) (st : State) : Type 0 where
  pub next : State
  pub matches : Matches ts c next
  pub goes : (rest : List Step) → at (run l tree (step ∷ rest) st) old ≡ at (run l tree rest next) new

-- the numbers don't fit
pub record Stops (l : Language) (tree : ℕ → Option Formula) (step : Step) (old : List ℤ) (st : State) : Type 0 where
  pub none : (rest : List Step) → at (run l tree (step ∷ rest) st) old ≡ None

-- whether it goes on
abbrev pub Went : Language → (ℕ → Option Formula) → Step → List Term → Code → List ℤ → List ℤ → State → Bool → Type 0
Went l tree step ts c old new st went = MatchBool went (Goes l tree step ts c old new st) (Stops l tree step old st)

-- What a step of the code does in every language that the block is of, from every state of a row that the code's is: over a graph that may grow and numbers that may be taken ..
abbrev pub Walks : Block → Step → List Term → List Term → Code → Code → List ℤ → List ℤ → Bool → Type 0
Walks block step ts now before after old new went =
    (l : Language) (tree : ℕ → Option Formula) (st : State) → IsBlock block ts l tree → Matches ts before st
    → Went l tree step now after old new st went

-- .. over any graph, which stays ..
abbrev pub Reads : Block → Step → Code → Code → List ℤ → List ℤ → Bool → Type 0
Reads block step before after old new went = (ts : List Term) → Walks block step ts ts before after old new went

-- .. and over any numbers, which stay
abbrev pub Makes : Step → List Term → List Term → Code → Code → Bool → Type 0
Makes step ts now before after went =
    (l : Language) (tree : ℕ → Option Formula) (st : State) (numbers : List ℤ) → Matches ts before st
    → Went l tree step now after numbers numbers st went

-- an annotation's formula stands in place of the last so many formulas, with these for its constants
pub record HasFilled (st : State) (gs : List Formula) (count : ℕ) (now : List Term) (after : Code) : Type 0 where
  pub formula : Formula
  pub is : st.body ≡ Some formula
  pub matches : Matches now after (replace count (fill gs formula) st)

-- it does, where there is one
abbrev pub PutsFilled : List Term → List Term → Code → Code → ℕ → List ℕ → Bool → Type 0
PutsFilled ts now before after count args went =
    (st : State) (gs : List Formula) → Matches ts before st → StandAll ts args gs
    → MatchBool went (HasFilled st gs count now after) (st.body ≡ None)

-- the answer to a test of what was taken
abbrev pub Passes : Program → Test → List Term → Code → Bool → Type 0
Passes p test ts c passed = (st : State) → Matches ts c st → passed ≡ passes p test st
