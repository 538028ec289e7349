use Rattle.std.proofs.Common.{◌≡◌, ◌≤◌, length}
use Rattle.cert_lines.specs.Numerals.{digits_at}
use Rattle.cert_lines.proofs.words.digits.Given as goal

abbrev pub invariant-loop-byte : goal.invariant-loop-byte
invariant-loop-byte l = record {
  goes : digits_at l.value l.rest ≡ digits_at 0 l.bytes;
  small : l.value ≤ l.most;
  within : length l.rest ≤ length l.bytes;
}

abbrev pub decreases-loop-byte : goal.decreases-loop-byte
decreases-loop-byte l = length l.rest
