use Rattle.rule_linear.proofs.Coefficients.{bound_nothing, first_nothing, second_nothing}
use Rattle.rule_linear.proofs.one_pass.is_bound_zero.Goals as goal

pub returns-then-is_zero : goal.returns-then-is_zero
returns-then-is_zero c =
    second_nothing _ _ _ _ _ (bound_nothing c.args.room.now c.args.terms.now c.args.bound c.in-Some.b c.in-Some.is) c.is_zero.ensures c.if-is_zero.true c.is_zero-then-is_zero.ensures

pub returns-else-is_zero : goal.returns-else-is_zero
returns-else-is_zero c =
    first_nothing _ _ _ _ (bound_nothing c.args.room.now c.args.terms.now c.args.bound c.in-Some.b c.in-Some.is) c.is_zero.ensures c.if-is_zero.false
