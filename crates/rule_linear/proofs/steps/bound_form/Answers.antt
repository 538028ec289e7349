use Rattle.rule_linear.proofs.Adding.{difference_known}
use Rattle.rule_linear.proofs.steps.bound_form.Goals as goal

pub add_one-requires-clause-known : goal.add_one-requires-clause-known
add_one-requires-clause-known c = difference_known c.args.terms.now c.args.b c.in_ok-form.ensures.known c.in_ok-form-2.ensures.known c.in_ok-combine_two.ensures
