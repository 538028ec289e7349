use Rattle.rule_linear.proofs.Places.{Reached}
use Rattle.rule_linear.proofs.steps.add_up.Given as goal

abbrev pub invariant-loop-i : goal.invariant-loop-i
invariant-loop-i l = Reached l.weights l.terms l.i
