use Rattle.rule_linear.proofs.agreement.+agrees_on.Given as goal

abbrev pub decreases-agrees_on : goal.decreases-agrees_on
decreases-agrees_on l = l.t
