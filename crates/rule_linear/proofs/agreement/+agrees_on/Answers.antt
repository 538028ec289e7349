use Rattle.std.proofs.Common.{ap}
use Rattle.rule_linear.specs.Forms.{units, sum_at}
use Rattle.rule_linear.proofs.Agreeing.{left_yes, left_no}
use Rattle.rule_linear.proofs.agreement.+agrees_on.Goals as goal

pub returns-then-left : goal.returns-then-left
returns-then-left t c =
    let s = sum_at c.args.terms.now in
    left_yes c.args.weights c.args.terms.now c.args.goal c.agrees_on-left.result c.agrees_on-right.result (units (s c.args.t)) (units (s c.in-Plus.a)) (units (s c.in-Plus.b)) c.if-left.true (ap units c.in-Plus.ensures.is) c.agrees_on-left.ensures c.agrees_on-right.ensures

pub returns-else-left : goal.returns-else-left
returns-else-left t c =
    let s = sum_at c.args.terms.now in
    left_no c.args.weights c.args.terms.now c.args.goal c.agrees_on-left.result c.agrees_on-right.result (units (s c.args.t)) (units (s c.in-Plus.a)) (units (s c.in-Plus.b)) c.if-left.false (ap units c.in-Plus.ensures.is) c.agrees_on-left.ensures c.agrees_on-right.ensures

pub returns-then-left-2 : goal.returns-then-left-2
returns-then-left-2 t c =
    let s = sum_at c.args.terms.now in
    left_yes c.args.weights c.args.terms.now c.args.goal c.agrees_on-left-in-Minus.result c.agrees_on-right-in-Minus.result (units (s c.args.t)) (units (s c.in-Minus.a)) (units (s c.in-Minus.b)) c.if-left-2.true (ap units c.in-Minus.ensures.is) c.agrees_on-left-in-Minus.ensures c.agrees_on-right-in-Minus.ensures

pub returns-else-left-2 : goal.returns-else-left-2
returns-else-left-2 t c =
    let s = sum_at c.args.terms.now in
    left_no c.args.weights c.args.terms.now c.args.goal c.agrees_on-left-in-Minus.result c.agrees_on-right-in-Minus.result (units (s c.args.t)) (units (s c.in-Minus.a)) (units (s c.in-Minus.b)) c.if-left-2.false (ap units c.in-Minus.ensures.is) c.agrees_on-left-in-Minus.ensures c.agrees_on-right-in-Minus.ensures
