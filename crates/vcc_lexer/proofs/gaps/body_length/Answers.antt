use Rattle.std.proofs.Common.{arith}
use Rattle.vcc_lexer.proofs.Skipping.{body_found, no_end}
use Rattle.vcc_lexer.proofs.gaps.body_length.Goals as goal

pub returns-then-byte_at-eq47 : goal.returns-then-byte_at-eq47
returns-then-byte_at-eq47 c = body_found c.args.text.now c.loop-i.i c.loop-i-test.true c.if-byte-eq42.true (omega (arith, c.byte_at.ensures)) c.loop-i.invariant

pub returns : goal.returns
returns c = no_end c.args.text.now (λ k lt. c.loop-i.invariant k (omega arith))
