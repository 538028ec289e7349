use Rattle.std.proofs.Common.{◌≡◌, ◌≤◌, ℕ, List, Option, length}
use Rattle.vcc_base.specs.Maps.{Map}
use Rattle.vcc_verify.specs.Writing.{Stands}
use Rattle.vcc_verify.proofs.Rounds.{Left, Aligned}
use Rattle.vcc_verify.proofs.items.write_items.Given as goal

abbrev pub invariant-loop-i : goal.invariant-loop-i
invariant-loop-i g l = record {
  left : (before : Option Map) (text : List ℕ) → Stands before (g.S.Store.contents l.initial.store) l.cert text l.fn.written →
      Left l.theory.program.now before l.cert text (g.O.Sink.written l.initial.out) l.all l.bytes (g.S.Store.contents l.store) (g.O.Sink.written l.out) l.i;
  aligned : Aligned l.theory.program.now l.labels l.place l.i;
  place : l.place ≤ length l.labels;
  room : l.bytes ≤ 67108860;
  store_never_falls : g.S.Store.write_faults l.initial.store ≤ g.S.Store.write_faults l.store;
  sink_never_falls : g.O.Sink.faults l.initial.out ≤ g.O.Sink.faults l.out;
  reads_stay : g.S.Store.read_faults l.store ≡ g.S.Store.read_faults l.initial.store;
}
