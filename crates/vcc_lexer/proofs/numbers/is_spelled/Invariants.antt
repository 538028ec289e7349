use Rattle.std.proofs.Common.{ℕ, ◌≡◌, ◌<◌, get_or}
use Rattle.c_syntax.specs.Numbers.{lower}
use Rattle.vcc_lexer.proofs.numbers.is_spelled.Given as goal

abbrev pub invariant-loop-i : goal.invariant-loop-i
invariant-loop-i l = (k : ℕ) → k < l.i → lower (get_or l.letters k 0) ≡ get_or l.word k 0
