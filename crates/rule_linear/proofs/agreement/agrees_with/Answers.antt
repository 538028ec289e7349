use Rattle.std.proofs.Common.{ap}
use Rattle.rule_linear.specs.Forms.{units, sum_at}
use Rattle.rule_linear.specs.Tests.{bound_units}
use Rattle.rule_linear.proofs.Agreeing.{left_yes, left_no}
use Rattle.rule_linear.proofs.agreement.agrees_with.Goals as goal

pub returns-then-left : goal.returns-then-left
returns-then-left c =
    let s = sum_at c.args.terms.now in
    left_yes c.args.weights c.args.terms.now c.args.goal c.agrees_on-left.result c.agrees_on-right.result (bound_units c.args.terms.now c.args.bound) (units (s c.in-Some.b.left)) (units (s c.in-Some.b.right)) c.if-left.true (ap (bound_units c.args.terms.now) c.in-Some.is) c.agrees_on-left.ensures c.agrees_on-right.ensures

pub returns-else-left : goal.returns-else-left
returns-else-left c =
    let s = sum_at c.args.terms.now in
    left_no c.args.weights c.args.terms.now c.args.goal c.agrees_on-left.result c.agrees_on-right.result (bound_units c.args.terms.now c.args.bound) (units (s c.in-Some.b.left)) (units (s c.in-Some.b.right)) c.if-left.false (ap (bound_units c.args.terms.now) c.in-Some.is) c.agrees_on-left.ensures c.agrees_on-right.ensures
