use Rattle.rule_linear.proofs.sizes.+form_size.Given as goal

abbrev pub decreases-form_size : goal.decreases-form_size
decreases-form_size l = l.t
