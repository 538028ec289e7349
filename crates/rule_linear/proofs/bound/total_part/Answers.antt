use Rattle.std.proofs.Common.{rules, ◌∙◌, arith, get_or, pos, false}
use mir.Val.{SFits, to_z}
use Rattle.std.specs.Int.{w128}
use Rattle.std.proofs.lemmas.Int.{to_z-of_z}
use Rattle.rule_linear.proofs.Totals.{wrapped_more}
use Rattle.rule_linear.proofs.bound.total_part.Goals as goal

pub loop-i-preserved : goal.loop-i-preserved
loop-i-preserved c =
    let n = c.literal_part-number.result in
    let r : SFits w128 c.add_multiple-sum.result = search rules in
    let f : SFits w128 n = search rules in
    let j : SFits w128 (get_or c.args.weights.multipliers.now c.loop-i.i (pos 0)) = search rules in
    let h = c.add_multiple-sum.ensures in
    let t = c.loop-i-test.true in
    let q = c.requires in
    to_z-of_z w128 c.add_multiple-sum.result r ∙ simp to_z-of_z at h
    ∙ wrapped_more c.args.weights.sorts.now c.args.terms.now c.args.weights.multipliers.now c.args.weights.literals.now c.loop-i.i (record { term = 0; positive = false }) c.args.part (to_z w128 c.loop-i.sum-bits) n
    (let m = q.multipliers in omega (arith, t, m)) (let m = q.literals in omega (arith, t, m)) c.loop-i.invariant c.literal_part-number.ensures
