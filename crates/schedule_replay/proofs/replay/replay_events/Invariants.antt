use Rattle.std.proofs.Common.{◌≡◌, ◌≤◌}
use Rattle.method.specs.Machine as m
use Rattle.ref_machine.specs.States.{Stands}
use Rattle.schedule_replay.specs.ReplayText.{replay_from}
use Rattle.schedule_replay.proofs.Events.{StandsAt}
use Rattle.schedule_replay.proofs.Exhausting.{OnWay}
use Rattle.schedule_replay.proofs.replay.replay_events.Given as goal

abbrev pub invariant-loop-event : goal.invariant-loop-event
invariant-loop-event g l = record {
  number : l.number ≡ l.event-index;
  before : (s : m.State) → Stands s l.initial.state → StandsAt l.program l.events l.event-index (replay_from l.program 0 l.events s) (g.O.Sink.written l.initial.out) (g.O.Sink.written l.out) l.state;
  way : (s : m.State) → Stands s l.initial.state → OnWay l.program l.events l.event-index s l.state;
  never_falls : g.O.Sink.faults l.initial.out ≤ g.O.Sink.faults l.out;
}
