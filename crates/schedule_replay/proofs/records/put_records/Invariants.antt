use Rattle.std.proofs.Common.{◌≤◌}
use Rattle.object_types.specs.Lookups.{heap_of}
use Rattle.schedule_replay.specs.Records.{records_text}
use Rattle.schedule_replay.proofs.Left.{Left}
use Rattle.schedule_replay.proofs.Printed.{rest_text, to_come}
use Rattle.schedule_replay.proofs.records.put_records.Given as goal

abbrev pub invariant-loop-from : goal.invariant-loop-from
invariant-loop-from g l = record {
  left : Left (g.O.Sink.written l.initial.out) (g.O.Sink.written l.out) (rest_text l.program (heap_of l.h) l.from) (records_text l.program (heap_of l.h));
  never_falls : g.O.Sink.faults l.initial.out ≤ g.O.Sink.faults l.out;
}

abbrev pub decreases-loop-from : goal.decreases-loop-from
decreases-loop-from g l = to_come l.from
