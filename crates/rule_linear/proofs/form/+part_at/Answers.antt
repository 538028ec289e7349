use Rattle.std.proofs.Common.{rules, ◌∙◌}
use mir.Val.{SFits}
use Rattle.std.specs.Int.{w128}
use Rattle.std.proofs.lemmas.Int.{to_z-of_z}
use Rattle.rule_linear.specs.Forms.{sum_at}
use Rattle.rule_linear.proofs.Wraps.{plus_part, minus_part, times_part}
use Rattle.rule_linear.proofs.form.+part_at.Goals as goal

pub returns-in-Plus : goal.returns-in-Plus
returns-in-Plus t c =
    let s = sum_at c.args.terms.now in
    let f : SFits w128 c.part_at.result = search rules in
    let g : SFits w128 c.part_at-in-Plus.result = search rules in
    let r : SFits w128 c.wrapped_sum.result = search rules in
    let h = c.wrapped_sum.ensures in
    to_z-of_z w128 c.wrapped_sum.result r ∙ simp to_z-of_z at h
    ∙ plus_part (s c.args.t) (s c.in-Plus.a) (s c.in-Plus.b) c.args.part c.part_at.result c.part_at-in-Plus.result c.in-Plus.ensures.is c.part_at.ensures c.part_at-in-Plus.ensures

pub returns-in-Minus : goal.returns-in-Minus
returns-in-Minus t c =
    let s = sum_at c.args.terms.now in
    let f : SFits w128 c.part_at-in-Minus.result = search rules in
    let g : SFits w128 c.part_at-in-Minus-2.result = search rules in
    let r : SFits w128 c.wrapped_difference.result = search rules in
    let h = c.wrapped_difference.ensures in
    to_z-of_z w128 c.wrapped_difference.result r ∙ simp to_z-of_z at h
    ∙ minus_part (s c.args.t) (s c.in-Minus.a) (s c.in-Minus.b) c.args.part c.part_at-in-Minus.result c.part_at-in-Minus-2.result c.in-Minus.ensures.is c.part_at-in-Minus.ensures c.part_at-in-Minus-2.ensures

pub returns-in-Times : goal.returns-in-Times
returns-in-Times t c =
    let s = sum_at c.args.terms.now in
    let f : SFits w128 c.in-Times.n = search rules in
    let g : SFits w128 c.part_at-in-Times.result = search rules in
    let r : SFits w128 c.wrapped_product.result = search rules in
    let h = c.wrapped_product.ensures in
    to_z-of_z w128 c.wrapped_product.result r ∙ simp to_z-of_z at h
    ∙ times_part (s c.args.t) (s c.in-Times.a) c.args.part c.in-Times.n c.part_at-in-Times.result c.in-Times.ensures.is c.part_at-in-Times.ensures
