-- What is shown of a worked program. Own.
use Rattle.method.specs.declared.program.Program.{Program}
use Rattle.method.specs.Legal.{Good}
use Rattle.method.specs.Machine.{State, IsStart, Safe}
use Rattle.method.specs.Typing.{WellTyped}
use Rattle.safety_law.specs.LabelFacts.{AllLabelsHold}

-- The program is well typed, each of its labels holds, and so it is safe; and it has a start, with this state, on a good heap.
pub record IsSafeByLabels (p : Program) (s : State) : Type 0 where
  pub typed : WellTyped p
  pub labels : AllLabelsHold p
  pub safe : Safe p
  pub starts : IsStart p s
  pub good : Good p s.heap
