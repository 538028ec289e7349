use Rattle.std.proofs.Common.{rules}
use mir.Val.{SFits}
use Rattle.std.specs.Int.{w128}
use Rattle.std.proofs.lemmas.Int.{to_z-of_z}
use Rattle.rule_linear.specs.Forms.{sum_at}
use Rattle.rule_linear.proofs.Coefficients.{as_added, number_added, plus_added, minus_added, times_added, alone_added}
use Rattle.rule_linear.proofs.one_pass.+add.Goals as goal

pub returns-in-Number : goal.returns-in-Number
returns-in-Number t c =
    let s = sum_at c.args.terms.now in
    let o = c.ranges.constant in
    let f = c.ranges.factor in
    let n : SFits w128 c.in-Number.n = search rules in
    let r : SFits w128 c.add_multiple.result = search rules in
    let h = c.add_multiple.ensures in
    as_added _ _ c.args.constant _ _ c.args.factor (s c.args.t) (to_z-of_z w128 c.add_multiple.result r)
    (number_added _ c.args.constant c.add_multiple.result c.args.factor (s c.args.t) c.in-Number.n c.in-Number.ensures.is (simp to_z-of_z at h))

pub returns-in-Plus : goal.returns-in-Plus
returns-in-Plus t c =
    let s = sum_at c.args.terms.now in
    let o = c.ranges.constant in
    let f = c.ranges.factor in
    let b : SFits w128 c.add-between.result = search rules in
    let r : SFits w128 c.add.result = search rules in
    let j = c.add-between.ensures in
    let k = c.add.ensures in
    as_added _ _ c.args.constant _ _ c.args.factor (s c.args.t) (to_z-of_z w128 c.add.result r)
    (plus_added _ _ _ c.args.constant c.add-between.result c.add.result c.args.factor (s c.args.t) (s c.in-Plus.a) (s c.in-Plus.b) c.in-Plus.ensures.is (simp to_z-of_z at j) (simp to_z-of_z at k))

pub returns-in-Minus : goal.returns-in-Minus
returns-in-Minus t c =
    let s = sum_at c.args.terms.now in
    let o = c.ranges.constant in
    let f = c.ranges.factor in
    let b : SFits w128 c.add-between-in-Minus.result = search rules in
    let d : SFits w128 c.wrapped_difference-turned.result = search rules in
    let r : SFits w128 c.add-in-Minus.result = search rules in
    let h = c.wrapped_difference-turned.ensures in
    let j = c.add-between-in-Minus.ensures in
    let k = c.add-in-Minus.ensures in
    as_added _ _ c.args.constant _ _ c.args.factor (s c.args.t) (to_z-of_z w128 c.add-in-Minus.result r)
    (minus_added _ _ _ c.args.constant c.add-between-in-Minus.result c.add-in-Minus.result c.args.factor (s c.args.t) (s c.in-Minus.a) (s c.in-Minus.b) c.wrapped_difference-turned.result c.in-Minus.ensures.is (simp to_z-of_z at h) (simp to_z-of_z at j) (simp to_z-of_z at k))

pub returns-in-Times : goal.returns-in-Times
returns-in-Times t c =
    let s = sum_at c.args.terms.now in
    let o = c.ranges.constant in
    let f = c.ranges.factor in
    let n : SFits w128 c.in-Times.n = search rules in
    let d : SFits w128 c.wrapped_product-product.result = search rules in
    let r : SFits w128 c.add-in-Times.result = search rules in
    let h = c.wrapped_product-product.ensures in
    let k = c.add-in-Times.ensures in
    as_added _ _ c.args.constant _ _ c.args.factor (s c.args.t) (to_z-of_z w128 c.add-in-Times.result r)
    (times_added _ _ c.args.constant c.add-in-Times.result c.args.factor (s c.args.t) (s c.in-Times.a) c.in-Times.n c.wrapped_product-product.result c.in-Times.ensures.is (simp to_z-of_z at h) (simp to_z-of_z at k))

pub returns-in-Alone : goal.returns-in-Alone
returns-in-Alone t c =
    let s = sum_at c.args.terms.now in
    let f = c.ranges.factor in
    let b : SFits w128 c.coefficient-before.result = search rules in
    let d : SFits w128 c.wrapped_sum-sum.result = search rules in
    let h = c.wrapped_sum-sum.ensures in
    let k = c.set_coefficient.ensures.here in
    as_added _ _ c.args.constant _ _ c.args.factor (s c.args.t) (to_z-of_z w128 c.args.constant c.ranges.constant)
    (alone_added _ _ c.args.constant c.args.factor (s c.args.t) c.args.t c.wrapped_sum-sum.result c.coefficient-before.result c.in-Alone.ensures.is c.coefficient-before.ensures (simp to_z-of_z at h) (simp to_z-of_z at k) c.set_coefficient.ensures.elsewhere)
