use Rattle.std.proofs.Common.{◌≡◌, ◌+◌, ◌≤◌, None, length}
use Rattle.cert_reader.specs.Keeping.{scan}
use Rattle.cert_reader.proofs.reader.BlockReader.take_lines.Given as goal

abbrev pub invariant-loop-front : goal.invariant-loop-front
invariant-loop-front l = record {
  goes : scan l.self l.rest ≡ scan l.fn.self l.fn.piece;
  sound : l.self.fault ≡ None;
  fits : l.self.bytes + length l.rest ≤ 4294967294;
}

abbrev pub decreases-loop-front : goal.decreases-loop-front
decreases-loop-front l = length l.rest
