use Rattle.std.proofs.Common.{◌≤◌, ◌∷◌, drop}
use Rattle.std.specs.List.{flat_map}
use Rattle.schedule_replay.specs.Pieces.{ref_text}
use Rattle.schedule_replay.specs.Records.{spaced}
use Rattle.schedule_replay.proofs.Left.{Left}
use Rattle.schedule_replay.proofs.records.put_spaced.Given as goal

abbrev pub invariant-loop-member : goal.invariant-loop-member
invariant-loop-member g l = record {
  left : Left (g.O.Sink.written l.fn.out) (g.O.Sink.written l.out) (flat_map (λ q. 32 ∷ ref_text q) (drop l.member-index l.others)) (spaced l.fn.members);
  never_falls : g.O.Sink.faults l.fn.out ≤ g.O.Sink.faults l.out;
}
