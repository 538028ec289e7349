use Rattle.rule_linear.proofs.one_pass.+add.Given as goal

abbrev pub decreases-add : goal.decreases-add
decreases-add l = l.t
