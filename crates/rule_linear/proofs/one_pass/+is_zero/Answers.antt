use Rattle.rule_linear.specs.Forms.{sum_at}
use Rattle.rule_linear.proofs.Coefficients.{plus_nothing, minus_nothing, first_nothing, second_nothing}
use Rattle.rule_linear.proofs.one_pass.+is_zero.Goals as goal

pub returns-then-is_zero : goal.returns-then-is_zero
returns-then-is_zero t c =
    let s = sum_at c.args.terms.now in
    second_nothing _ _ _ _ _ (plus_nothing c.args.room.now (s c.args.t) (s c.in-Plus.a) (s c.in-Plus.b) c.in-Plus.ensures.is) c.is_zero.ensures c.if-is_zero.true c.is_zero-then-is_zero.ensures

pub returns-else-is_zero : goal.returns-else-is_zero
returns-else-is_zero t c =
    let s = sum_at c.args.terms.now in
    first_nothing _ _ _ _ (plus_nothing c.args.room.now (s c.args.t) (s c.in-Plus.a) (s c.in-Plus.b) c.in-Plus.ensures.is) c.is_zero.ensures c.if-is_zero.false

pub returns-then-is_zero-2 : goal.returns-then-is_zero-2
returns-then-is_zero-2 t c =
    let s = sum_at c.args.terms.now in
    second_nothing _ _ _ _ _ (minus_nothing c.args.room.now (s c.args.t) (s c.in-Minus.a) (s c.in-Minus.b) c.in-Minus.ensures.is) c.is_zero-in-Minus.ensures c.if-is_zero-2.true c.is_zero-then-is_zero-2.ensures

pub returns-else-is_zero-2 : goal.returns-else-is_zero-2
returns-else-is_zero-2 t c =
    let s = sum_at c.args.terms.now in
    first_nothing _ _ _ _ (minus_nothing c.args.room.now (s c.args.t) (s c.in-Minus.a) (s c.in-Minus.b) c.in-Minus.ensures.is) c.is_zero-in-Minus.ensures c.if-is_zero-2.false
