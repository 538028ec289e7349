use Rattle.std.proofs.Common.{ℕ, ◌≡◌, ◌<◌, get_or, true}
use Rattle.vcc_lexer.specs.Classes.{is_in}
use Rattle.vcc_lexer.proofs.bytes.run.Given as goal

abbrev pub invariant-loop-i : goal.invariant-loop-i
invariant-loop-i l = (k : ℕ) → k < l.i → is_in l.class (get_or l.text k 0) ≡ true
