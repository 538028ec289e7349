use Rattle.std.proofs.Common.{◌≤◌, ◌+◌, ◌-◌}
use Rattle.object_types.specs.Lookups.{heap_of}
use Rattle.schedule_replay.specs.Records.{fields_from}
use Rattle.schedule_replay.proofs.Left.{Left}
use Rattle.schedule_replay.proofs.records.put_fields.Given as goal

abbrev pub invariant-loop-i : goal.invariant-loop-i
invariant-loop-i g l = record {
  left : Left (g.O.Sink.written l.initial.out) (g.O.Sink.written l.out) (fields_from l.program (heap_of l.h) l.o (l.f + l.i) (l.n - l.i)) (fields_from l.program (heap_of l.h) l.o l.f l.n);
  never_falls : g.O.Sink.faults l.initial.out ≤ g.O.Sink.faults l.out;
}
