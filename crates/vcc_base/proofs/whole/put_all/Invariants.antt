use Rattle.std.proofs.Common.{◌≤◌, ◌-◌, length, take}
use Rattle.vcc_base.specs.Maps.{NowWritten}
use Rattle.vcc_base.proofs.whole.put_all.Given as goal

abbrev pub invariant-loop-done : goal.invariant-loop-done
invariant-loop-done g l = record {
  within : l.done ≤ length l.piece;
  front : NowWritten (g.O.Sink.written l.initial.out) (g.O.Sink.written l.out) (take l.done l.piece);
  never_falls : g.O.Sink.faults l.initial.out ≤ g.O.Sink.faults l.out;
}

abbrev pub decreases-loop-done : goal.decreases-loop-done
decreases-loop-done g l = length l.piece - l.done
