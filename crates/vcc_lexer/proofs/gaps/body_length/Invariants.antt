use Rattle.std.proofs.Common.{ℕ, ◌≡◌, ◌<◌, ◌+◌, get_or}
use Rattle.vcc_lexer.proofs.gaps.body_length.Given as goal

abbrev pub invariant-loop-i : goal.invariant-loop-i
invariant-loop-i l = (k : ℕ) → k < l.i → get_or l.text k 0 ≡ 42 → get_or l.text (k + 1) 0 ≡ 47 → ⊥
