-- The states that the runs of a safe program reach.
use Rattle.std.proofs.Common.{List}
use Rattle.method.specs.declared.program.Program.{Program}
use Rattle.method.specs.Legal.{Good}
use Rattle.method.specs.Typing.{WellTyped}
use Rattle.method.specs.Machine.{State, Event, IsStart, Safe, run}
use Rattle.plain_machine.specs.GhostApart.{GhostApart}

-- A state that a run of a safe program reaches.
pub record Reached (p : Program) : Type 0 where
  pub typed : WellTyped p
  pub apart : GhostApart p
  pub safe : Safe p
  pub start : State
  pub is_start : IsStart p start
  pub good : Good p start.heap
  pub events : List Event

abbrev pub reached : {p : Program} → Reached p → State
reached {p} r = run p r.events r.start
