use Rattle.std.proofs.Common.{◌≡◌, ◌≤◌, ◌+◌, ◌-◌, length}
use Rattle.vcc_base.specs.Limits.{number_of}
use Rattle.vcc_base.proofs.Reading.{Front}
use Rattle.vcc_base.proofs.whole.read_pieces.Given as goal

abbrev pub invariant-pieces : goal.invariant-pieces
invariant-pieces g l = record {
  within : length l.bytes.items ≤ number_of l.limit;
  front : Front (g.S.Store.contents l.initial.store) l.name l.bytes.items;
  kept : g.S.Store.contents l.store ≡ g.S.Store.contents l.initial.store;
  writes_stay : g.S.Store.write_faults l.store ≡ g.S.Store.write_faults l.initial.store;
  never_falls : g.S.Store.read_faults l.initial.store ≤ g.S.Store.read_faults l.store;
}

abbrev pub decreases-pieces : goal.decreases-pieces
decreases-pieces g l = number_of l.limit + 1 - length l.bytes.items
