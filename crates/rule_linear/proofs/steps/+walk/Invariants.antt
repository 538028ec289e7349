use Rattle.rule_linear.proofs.steps.+walk.Given as goal

abbrev pub decreases-walk : goal.decreases-walk
decreases-walk l = l.t
