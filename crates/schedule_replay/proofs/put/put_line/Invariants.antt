use Rattle.std.proofs.Common.{◌≤◌, drop}
use Rattle.schedule_replay.specs.Pieces.{line_text}
use Rattle.schedule_replay.proofs.Left.{Left}
use Rattle.schedule_replay.proofs.put.put_line.Given as goal

abbrev pub invariant-loop-piece : goal.invariant-loop-piece
invariant-loop-piece g l = record {
  left : Left (g.O.Sink.written l.initial.out) (g.O.Sink.written l.out) (line_text (drop l.piece-index l.pieces)) (line_text l.pieces);
  never_falls : g.O.Sink.faults l.initial.out ≤ g.O.Sink.faults l.out;
}
