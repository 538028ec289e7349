use Rattle.std.proofs.Common.{rules, below_more}
use Rattle.vcc_lexer.proofs.bytes.run.Goals as goal

pub loop-i-preserved : goal.loop-i-preserved
loop-i-preserved c = below_more _ _ c.loop-i.invariant (search rules)
