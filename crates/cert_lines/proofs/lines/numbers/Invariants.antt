use Rattle.std.proofs.Common.{◌≡◌, length}
use Rattle.cert_lines.specs.Grammar.{words_left, numbers}
use Rattle.cert_lines.proofs.Readings.{onto_pair}
use Rattle.cert_lines.proofs.lines.numbers.Given as goal

abbrev pub invariant-loop-rest : goal.invariant-loop-rest
invariant-loop-rest l = record {
  goes : onto_pair l.found.items (numbers (words_left l.rest)) ≡ numbers (words_left l.fn.rest);
}

abbrev pub decreases-loop-rest : goal.decreases-loop-rest
decreases-loop-rest l = length (words_left l.rest)
