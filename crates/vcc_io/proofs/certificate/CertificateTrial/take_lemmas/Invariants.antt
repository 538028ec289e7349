use Rattle.std.proofs.Common.{◌≡◌, ℕ, List, length}
use Rattle.block_layout.specs.declared.space.Theory.{Theory}
use Rattle.vcc_io.specs.Pieces.{HasTaken}
use Rattle.vcc_io.proofs.certificate.CertificateTrial.take_lemmas.Given as goal

abbrev pub invariant-lemmas : goal.invariant-lemmas
invariant-lemmas l = record {
  taken : (t : Theory) (bytes : List ℕ) → HasTaken t bytes l.fn.self → HasTaken t bytes l.self;
  bytes : l.self.reader.bytes ≡ l.fn.self.reader.bytes;
}

abbrev pub decreases-lemmas : goal.decreases-lemmas
decreases-lemmas l = length l.self.reader.progress.lemmas
