use Rattle.std.proofs.Common.{◌≡◌, length}
use Rattle.cert_lines.specs.Grammar.{words_left, arguments}
use Rattle.cert_lines.proofs.Readings.{onto}
use Rattle.cert_lines.proofs.lines.arguments.Given as goal

abbrev pub invariant-loop-rest : goal.invariant-loop-rest
invariant-loop-rest l = record { goes : onto l.found.items (arguments (words_left l.rest)) ≡ arguments (words_left l.fn.rest) }

abbrev pub decreases-loop-rest : goal.decreases-loop-rest
decreases-loop-rest l = length (words_left l.rest)
