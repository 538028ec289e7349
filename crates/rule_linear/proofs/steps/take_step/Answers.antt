use Rattle.std.proofs.Common.{rules}
use mir.Val.{SFits}
use Rattle.std.specs.Int.{w128}
use Rattle.std.proofs.lemmas.Int.{to_z-of_z}
use Rattle.std.proofs.Common.{take}
use Rattle.rule_linear.specs.Sides.{weighted}
use Rattle.rule_linear.proofs.Jobs.{add_meets}
use Rattle.rule_linear.proofs.steps.take_step.Goals as goal

pub returns-in-Add : goal.returns-in-Add
returns-in-Add c =
    let f : SFits w128 c.total_part-sum.result = search rules in
    let g : SFits w128 c.bound_part-number.result = search rules in
    let i : SFits w128 c.wrapped_product-product.result = search rules in
    let j : SFits w128 c.in-Add.m = search rules in
    let h = c.wrapped_product-product.ensures in
    let k = c.add_fits.ensures in
    add_meets c.args.weights.sorts.now c.args.terms.now (take c.args.end (weighted c.args.weights)) c.args.job c.in-Add.m c.in-Add.b c.args.part c.total_part-sum.result c.bound_part-number.result c.wrapped_product-product.result c.add_fits.result
    c.in-Add.is c.total_part-sum.ensures c.bound_part-number.ensures (simp to_z-of_z at h) c.requires.exact (simp to_z-of_z at k)
