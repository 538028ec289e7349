use Rattle.rule_linear.specs.Coefficients.{Holds}
use Rattle.rule_linear.proofs.one_pass.add_all.Given as goal

abbrev pub invariant-loop-i : goal.invariant-loop-i
invariant-loop-i l = Holds l.weights l.terms l.room l.constant l.i
