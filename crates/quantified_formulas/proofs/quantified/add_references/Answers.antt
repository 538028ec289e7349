use Rattle.std.proofs.Common.{arith}
use Rattle.quantified_formulas.proofs.Counting.{one_put, none_left}
use Rattle.quantified_formulas.proofs.quantified.add_references.Goals as goal

pub loop-left-preserved : goal.loop-left-preserved
loop-left-preserved c = one_put c.loop-left.sorts.items c.push.new.self.items _ c.loop-left.left (omega arith) c.in_ok-push.ensures.items c.loop-left.invariant

pub returns : goal.returns
returns c = none_left c.loop-left.sorts.items _ c.loop-left.left (omega arith) c.loop-left.invariant
