use Rattle.std.proofs.Common.{◌≡◌, ◌≤◌, ◌-◌, length}
use Rattle.vcc_base.proofs.Appending.{Grown}
use Rattle.vcc_base.proofs.whole.append_all.Given as goal

abbrev pub invariant-pieces : goal.invariant-pieces
invariant-pieces g l = record {
  within : l.done ≤ length l.piece;
  grown : Grown (g.S.Store.contents l.initial.store) (g.S.Store.contents l.store) l.name l.piece l.done;
  reads_stay : g.S.Store.read_faults l.store ≡ g.S.Store.read_faults l.initial.store;
  never_falls : g.S.Store.write_faults l.initial.store ≤ g.S.Store.write_faults l.store;
}

abbrev pub decreases-pieces : goal.decreases-pieces
decreases-pieces g l = length l.piece - l.done
