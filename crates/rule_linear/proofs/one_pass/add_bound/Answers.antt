use Rattle.std.proofs.Common.{rules}
use mir.Val.{SFits}
use Rattle.std.specs.Int.{w128}
use Rattle.std.proofs.lemmas.Int.{to_z-of_z}
use Rattle.rule_linear.proofs.Coefficients.{as_bound_added, bound_added, none_added}
use Rattle.rule_linear.proofs.one_pass.add_bound.Goals as goal

pub returns-in-Some : goal.returns-in-Some
returns-in-Some c =
    let o = c.ranges.constant in
    let f = c.ranges.factor in
    let u : SFits w128 c.part_of_one-one.result = search rules in
    let v : SFits w128 c.add_multiple-first.result = search rules in
    let b : SFits w128 c.add-between.result = search rules in
    let d : SFits w128 c.wrapped_difference-turned.result = search rules in
    let r : SFits w128 c.add.result = search rules in
    let g = c.add_multiple-first.ensures in
    let h = c.wrapped_difference-turned.ensures in
    let j = c.add-between.ensures in
    let k = c.add.ensures in
    as_bound_added c.args.terms.now _ _ c.args.constant _ _ c.args.factor c.args.bound (to_z-of_z w128 c.add.result r)
    (bound_added _ _ _ c.args.constant c.add_multiple-first.result c.add-between.result c.add.result c.args.factor c.args.terms.now c.args.bound c.in-Some.b c.part_of_one-one.result c.wrapped_difference-turned.result c.in-Some.is c.part_of_one-one.ensures
    (simp to_z-of_z at g) (simp to_z-of_z at h) (simp to_z-of_z at j) (simp to_z-of_z at k))

pub returns-in-None : goal.returns-in-None
returns-in-None c =
    as_bound_added c.args.terms.now _ _ c.args.constant _ _ c.args.factor c.args.bound (to_z-of_z w128 c.args.constant c.ranges.constant) (none_added c.args.terms.now _ c.args.constant c.args.factor c.args.bound c.in-None.is)
