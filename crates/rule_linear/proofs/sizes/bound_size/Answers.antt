use Rattle.std.proofs.Common.{rules, sym, subst}
use mir.Val.{SFits}
use Rattle.std.specs.Int.{w128}
use Rattle.std.proofs.lemmas.Int.{to_z-of_z}
use Rattle.rule_linear.specs.Forms.{units, sum_at}
use Rattle.rule_linear.specs.Sizes.{IsBoundSized}
use Rattle.rule_linear.proofs.Sized.{bound_sized}
use Rattle.rule_linear.proofs.Coefficients.{cleared_both}
use Rattle.rule_linear.proofs.sizes.bound_size.Goals as goal

pub returns-clause-size : goal.returns-clause-size
returns-clause-size c =
    let l : SFits w128 c.in_ok-left.left = search rules in
    let r : SFits w128 c.in_ok-right.right = search rules in
    let s : SFits w128 c.in_ok-sides.sides = search rules in
    let n : SFits w128 c.in_ok-size.size = search rules in
    let g = c.in_ok-sides.ensures in
    let h = c.in_ok-size.ensures in
    subst (λ z. IsBoundSized c.args.terms.now c.args.b z) (sym (to_z-of_z w128 c.in_ok-size.size n))
    (bound_sized c.args.terms.now c.args.b c.in_ok-left.left c.in_ok-right.right c.in_ok-sides.sides c.in_ok-size.size c.in_ok-left.ensures.size c.in_ok-right.ensures.size (simp to_z-of_z at g) s (simp to_z-of_z at h) n)

pub returns-clause-cleared : goal.returns-clause-cleared
returns-clause-cleared c =
    let s = sum_at c.args.terms.now in
    cleared_both _ _ _ (units (s c.args.b.left)) (units (s c.args.b.right)) c.in_ok-left.ensures.cleared c.in_ok-right.ensures.cleared
