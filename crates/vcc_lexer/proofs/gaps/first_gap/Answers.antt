use Rattle.std.proofs.Common.{subst}
use Rattle.vcc_lexer.specs.Gaps.{IsBlank}
use Rattle.vcc_lexer.proofs.Skipping.{blank_skips}
use Rattle.vcc_lexer.proofs.gaps.first_gap.Goals as goal

pub returns-in-47 : goal.returns-in-47
returns-in-47 c = c.comment.ensures c.args.column

pub returns-then-is_blank : goal.returns-then-is_blank
returns-then-is_blank c = λ p e. blank_skips p c.args.text.now (subst (λ b. IsBlank b) c.byte_at-first.ensures c.if-is_blank.ensures)
