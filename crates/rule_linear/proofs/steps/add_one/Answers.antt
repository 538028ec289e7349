use Rattle.std.proofs.Common.{rules}
use mir.Val.{SFits}
use Rattle.std.specs.Int.{w128}
use Rattle.std.proofs.lemmas.Int.{to_z-of_z}
use Rattle.rule_linear.specs.declared.form.Part.TheVariants.{Constant}
use Rattle.rule_linear.specs.Forms.{number_of, sum_at}
use Rattle.rule_linear.proofs.Adding.{one_meets}
use Rattle.rule_linear.proofs.steps.add_one.Goals as goal

pub returns-then-b : goal.returns-then-b
returns-then-b c =
    let s = sum_at c.args.terms.now in
    let f : SFits w128 c.part_at-left.result = search rules in
    let g : SFits w128 c.part_at-right.result = search rules in
    let i : SFits w128 c.wrapped_difference-constant.result = search rules in
    let h = c.wrapped_difference-constant.ensures in
    let k = c.add_fits.ensures in
    one_meets c.args.b.strict c.part_at-left.result c.part_at-right.result c.wrapped_difference-constant.result (number_of (s c.args.b.left) Constant) (number_of (s c.args.b.right) Constant) c.add_fits.result
    c.if-b.true c.part_at-left.ensures c.part_at-right.ensures (simp to_z-of_z at h) (c.requires.known.known Constant) (simp to_z-of_z at k)
