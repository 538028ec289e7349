use Rattle.std.proofs.Common.{◌≡◌, ◌≤◌, ◌+◌, ◌-◌}
use Rattle.vcc_base.specs.Limits.{number_of}
use Rattle.vcc_base.specs.declared.limit.Limit.TheVariants.{CertBytes}
use Rattle.vcc_io.proofs.Fronts.{Reads}
use Rattle.vcc_io.proofs.certificate.take_pieces.Given as goal

abbrev pub invariant-pieces : goal.invariant-pieces
invariant-pieces g l = record {
  within : l.offset ≤ number_of CertBytes;
  reads : Reads l.theory (g.S.Store.contents l.initial.store) l.name l.offset l.certificate;
  bytes : l.certificate.reader.bytes ≤ l.offset;
  kept : g.S.Store.contents l.store ≡ g.S.Store.contents l.initial.store;
  never_falls : g.S.Store.read_faults l.initial.store ≤ g.S.Store.read_faults l.store;
}

abbrev pub decreases-pieces : goal.decreases-pieces
decreases-pieces g l = number_of CertBytes + 1 - l.offset
