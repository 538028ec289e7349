use Rattle.std.proofs.Common.{◌≡◌, ◌+◌, length}
use Rattle.cert_lines.specs.Grammar.{words_left, literals}
use Rattle.cert_lines.proofs.Readings.{onto}
use Rattle.cert_lines.proofs.lines.literals.Given as goal

abbrev pub invariant-loop-rest : goal.invariant-loop-rest
invariant-loop-rest l = record {
  goes : onto l.found.items (literals l.left (words_left l.rest)) ≡ literals l.most (words_left l.fn.rest);
  few : length l.found.items + l.left ≡ l.most;
}

abbrev pub decreases-loop-rest : goal.decreases-loop-rest
decreases-loop-rest l = length (words_left l.rest)
