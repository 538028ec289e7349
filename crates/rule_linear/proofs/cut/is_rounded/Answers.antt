use Rattle.std.proofs.Common.{rules}
use mir.Val.{SFits}
use Rattle.std.specs.Int.{w128}
use Rattle.std.proofs.lemmas.Int.{to_z-of_z}
use Rattle.rule_linear.proofs.Cutting.{rounded_row}
use Rattle.rule_linear.proofs.cut.is_rounded.Goals as goal

pub returns : goal.returns
returns c =
    let sum = c.total_part-sum.result in
    let constant = c.bound_part-constant.result in
    let f : SFits w128 sum = search rules in
    let g : SFits w128 constant = search rules in
    let i : SFits w128 c.args.target.factor = search rules in
    let h = c.is_rounded_up.ensures in
    rounded_row c.args.weights c.args.terms.now c.args.target c.args.goal c.requires.bound c.agrees.result c.agrees_with.result c.is_rounded_up.result constant sum c.requires.lengths
    c.agrees.ensures c.if-not-agrees.false c.agrees_with.ensures c.if-not-agrees_with.false c.total_part-sum.ensures c.requires.known c.bound_part-constant.ensures c.requires.goal (simp to_z-of_z at h)
