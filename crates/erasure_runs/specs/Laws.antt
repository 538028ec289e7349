-- A safe program is safe without its annotations, and its runs are then the machine's. Own.
use Rattle.method.specs.declared.program.Program.{Program}
use Rattle.method.specs.Legal.{Good}
use Rattle.method.specs.Typing.{WellTyped}
use Rattle.method.specs.Machine.{State, IsStart, Safe}
use Rattle.method.specs.Trace.{Memory}
use Rattle.safe_counter.specs.Shared.{program as counter_program}
use Rattle.plain_machine.specs.GhostApart.{GhostApart}
use Rattle.plain_machine.specs.SafePlain.{SafePlain, ReachesErasures}

-- of a safe program no event of the plain machine is a fault
abbrev pub SafeIsSafePlain : Type 0
SafeIsSafePlain = (p : Program) → WellTyped p → GhostApart p → Safe p → SafePlain p

-- what plain events reach from a start on a good heap are the states that the machine reaches from there, without annotations
abbrev pub RunsAreErased : Type 0
RunsAreErased = (p : Program) → WellTyped p → GhostApart p → Safe p → (s : State) → IsStart p s → Good p s.heap → ReachesErasures p s

-- the counter's program is safe without annotations, whatever memory its vectors lie in
abbrev pub CounterIsSafePlain : Type 0
CounterIsSafePlain = (m : Memory) → SafePlain (counter_program m)
