use Rattle.std.proofs.Common.{rules, ◌+◌, get_or, pos}
use mir.Val.{SFits, to_z}
use Rattle.std.specs.Int.{w128}
use Rattle.std.proofs.lemmas.Int.{to_z-of_z}
use Rattle.rule_linear.proofs.Coefficients.{as_held, next_holds}
use Rattle.rule_linear.proofs.one_pass.add_all.Goals as goal

pub loop-i-preserved : goal.loop-i-preserved
loop-i-preserved c =
    let m : SFits w128 (get_or c.args.weights.multipliers.now c.loop-i.i (pos 0)) = search rules in
    let r : SFits w128 c.add_bound-constant.result = search rules in
    let h = c.add_bound-constant.ensures in
    as_held c.args.weights c.args.terms.now _ _ _ (c.loop-i.i + 1) (to_z-of_z w128 c.add_bound-constant.result r)
    (next_holds c.args.weights c.args.terms.now c.loop-i.room c.add_bound-constant.new.room (to_z w128 c.loop-i.constant-bits) c.add_bound-constant.result c.loop-i.i c.bound_for-bound.result c.requires.lengths c.loop-i-test.true c.bound_for-bound.ensures.value c.loop-i.invariant (simp to_z-of_z at h))
