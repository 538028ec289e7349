use Rattle.std.proofs.Common.{rules, ◌∙◌, ap, ◌+ℤ◌, ◌*ℤ◌}
use mir.Val.{SFits}
use Rattle.std.specs.Int.{w128, int_wrap}
use Rattle.std.proofs.lemmas.Int.{to_z-of_z, int_wrap-add_right}
use Rattle.rule_linear.proofs.bound.add_multiple.Goals as goal

pub returns : goal.returns
returns c =
    let f : SFits w128 c.wrapped_product.result = search rules in
    let i = c.ranges.sum in
    let j = c.ranges.m in
    let k = c.ranges.number in
    let h = c.wrapped_sum.ensures in
    let g = c.wrapped_product.ensures in
    let r : SFits w128 c.wrapped_sum.result = search rules in
    to_z-of_z w128 c.wrapped_sum.result r ∙ simp to_z-of_z at h ∙ ap (λ x. int_wrap w128 (c.args.sum +ℤ x)) (simp to_z-of_z at g) ∙ int_wrap-add_right w128 c.args.sum (c.args.m *ℤ c.args.number)
