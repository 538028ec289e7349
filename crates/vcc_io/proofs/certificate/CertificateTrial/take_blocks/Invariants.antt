use Rattle.std.proofs.Common.{◌≡◌, ℕ, List, length}
use Rattle.vcc_io.specs.Pieces.{HasBegun, HasBegunSome}
use Rattle.vcc_io.proofs.certificate.CertificateTrial.take_blocks.Given as goal

abbrev pub invariant-whole : goal.invariant-whole
invariant-whole l = record {
  some : HasBegunSome l.theory l.self;
  begun : (bytes : List ℕ) → HasBegun l.theory bytes l.fn.self → HasBegun l.theory bytes l.self;
  bytes : l.self.reader.bytes ≡ l.fn.self.reader.bytes;
}

abbrev pub decreases-whole : goal.decreases-whole
decreases-whole l = length l.self.reader.progress.blocks
