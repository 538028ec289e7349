use Rattle.rule_linear.proofs.steps.+form.Given as goal

abbrev pub decreases-form : goal.decreases-form
decreases-form l = l.t
