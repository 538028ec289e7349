use Rattle.rule_linear.proofs.one_pass.+is_zero.Given as goal

abbrev pub decreases-is_zero : goal.decreases-is_zero
decreases-is_zero l = l.t
