use Rattle.std.proofs.Common.{rules, get_or, pos, sym, subst}
use mir.Val.{SFits}
use Rattle.std.specs.Int.{w128}
use Rattle.std.proofs.lemmas.Int.{to_z-of_z}
use Rattle.rule_linear.specs.Coefficients.{place_bound}
use Rattle.rule_linear.specs.Sizes.{IsNextSized}
use Rattle.rule_linear.proofs.Sized.{some_sized, none_sized}
use Rattle.rule_linear.proofs.Coefficients.{some_cleared, none_cleared}
use Rattle.rule_linear.proofs.sizes.next_size.Goals as goal

pub returns-in_ok-size-in-Some-clause-size : goal.returns-in_ok-size-in-Some-clause-size
returns-in_ok-size-in-Some-clause-size c =
    let b = c.ranges.before in
    let m : SFits w128 (get_or c.args.weights.multipliers.now c.args.i (pos 0)) = search rules in
    let n : SFits w128 c.in_ok-size-in-Some.size = search rules in
    let h = c.in_ok-size-in-Some.ensures.size in
    subst (λ z. IsNextSized c.args.weights c.args.terms.now c.args.i z) (sym (to_z-of_z w128 c.in_ok-size-in-Some.size n))
    (some_sized c.args.weights c.args.terms.now c.args.i c.in-Some.b c.in_ok-size-in-Some.size c.requires.reach.multipliers c.requires.reach.literals c.in-Some.ensures.value (simp to_z-of_z at h))

pub returns-in-None-clause-size : goal.returns-in-None-clause-size
returns-in-None-clause-size c =
    subst (λ z. IsNextSized c.args.weights c.args.terms.now c.args.i z) (sym (to_z-of_z w128 c.args.before c.ranges.before))
    (none_sized c.args.weights c.args.terms.now c.args.i c.args.before c.requires.reach.multipliers c.requires.reach.literals c.in-None.ensures.value c.requires.before)

pub returns-in_ok-size-in-Some-clause-cleared : goal.returns-in_ok-size-in-Some-clause-cleared
returns-in_ok-size-in-Some-clause-cleared c =
    some_cleared _ _ c.args.terms.now (place_bound c.args.weights c.args.terms.now c.args.i) c.in-Some.b c.in-Some.ensures.value c.in_ok-size-in-Some.ensures.cleared

pub returns-in-None-clause-cleared : goal.returns-in-None-clause-cleared
returns-in-None-clause-cleared c = none_cleared _ c.args.terms.now (place_bound c.args.weights c.args.terms.now c.args.i) c.in-None.ensures.value
