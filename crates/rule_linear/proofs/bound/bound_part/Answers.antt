use Rattle.std.proofs.Common.{rules, ◌∙◌, ap, ◌+ℤ◌}
use mir.Val.{SFits}
use Rattle.std.specs.Int.{w128, int_wrap}
use Rattle.std.proofs.lemmas.Int.{to_z-of_z, int_wrap-add_left}
use Rattle.rule_linear.specs.Forms.{sum_at, number_of}
use Rattle.rule_linear.specs.Bounds.{difference}
use Rattle.rule_linear.proofs.Wraps.{wrap_apart}
use Rattle.rule_linear.proofs.bound.bound_part.Goals as goal

pub returns : goal.returns
returns c =
    let f : SFits w128 c.part_at-left.result = search rules in
    let g : SFits w128 c.part_at-right.result = search rules in
    let i : SFits w128 c.wrapped_difference-difference.result = search rules in
    let j : SFits w128 c.part_of_one.result = search rules in
    let terms = c.args.terms.now in
    let d = c.wrapped_difference-difference.ensures in
    let h = c.wrapped_sum.ensures in
    let e = simp to_z-of_z at d ∙ wrap_apart c.part_at-left.result c.part_at-right.result (number_of (sum_at terms c.args.b.left) c.args.part) (number_of (sum_at terms c.args.b.right) c.args.part) c.part_at-left.ensures c.part_at-right.ensures in
    let r : SFits w128 c.wrapped_sum.result = search rules in
    to_z-of_z w128 c.wrapped_sum.result r ∙ simp to_z-of_z at h
    ∙ ap (λ x. int_wrap w128 (x +ℤ c.part_of_one.result)) e
    ∙ int_wrap-add_left w128 (number_of (difference terms c.args.b) c.args.part) c.part_of_one.result
    ∙ ap (λ x. int_wrap w128 (number_of (difference terms c.args.b) c.args.part +ℤ x)) c.part_of_one.ensures
