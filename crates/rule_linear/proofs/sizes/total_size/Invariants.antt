use Rattle.rule_linear.proofs.Sized.{SizedSoFar}
use Rattle.rule_linear.proofs.sizes.total_size.Given as goal

abbrev pub invariant-loop-i : goal.invariant-loop-i
invariant-loop-i l = SizedSoFar l.weights l.terms l.room l.i l.size
