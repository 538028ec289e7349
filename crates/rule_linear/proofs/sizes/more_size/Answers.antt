use Rattle.std.proofs.Common.{rules, sym, subst}
use mir.Val.{SFits}
use Rattle.std.specs.Int.{w128}
use Rattle.std.proofs.lemmas.Int.{to_z-of_z}
use Rattle.rule_linear.specs.Sizes.{IsMoreSized}
use Rattle.rule_linear.proofs.Sized.{more_sized}
use Rattle.rule_linear.proofs.sizes.more_size.Goals as goal

pub returns-clause-size : goal.returns-clause-size
returns-clause-size c =
    let m = c.ranges.m in
    let b = c.ranges.before in
    let k : SFits w128 c.in_ok-factor.factor = search rules in
    let o : SFits w128 c.in_ok-of.of = search rules in
    let p : SFits w128 c.in_ok-product.product = search rules in
    let n : SFits w128 c.in_ok-size.size = search rules in
    let f = c.in_ok-factor.ensures in
    let g = c.in_ok-product.ensures in
    let h = c.in_ok-size.ensures in
    subst (λ z. IsMoreSized c.args.weights c.args.terms.now c.args.end c.args.m c.args.b z) (sym (to_z-of_z w128 c.in_ok-size.size n))
    (more_sized c.args.weights c.args.terms.now c.args.end c.args.m c.args.b c.args.before c.in_ok-factor.factor c.in_ok-of.of c.in_ok-product.product c.in_ok-size.size c.requires.before (simp to_z-of_z at f) c.in_ok-of.ensures.size (simp to_z-of_z at g) p (simp to_z-of_z at h) n)
