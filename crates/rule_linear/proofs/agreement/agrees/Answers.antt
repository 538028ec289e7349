use Rattle.std.proofs.Common.{arith, refl, false}
use Rattle.rule_linear.proofs.Agreeing.{next_agrees, stops_agreeing, all_agree}
use Rattle.rule_linear.proofs.agreement.agrees.Goals as goal

pub returns-then-not-agrees_with : goal.returns-then-not-agrees_with
returns-then-not-agrees_with c =
    let l = c.requires.lengths in
    let t = c.loop-i-test.true in
    stops_agreeing c.args.weights c.args.terms.now c.args.goal c.args.weights.multipliers.now c.args.weights.literals.now c.loop-i.i (record { term = 0; positive = false }) c.agrees_with.result c.bound_for-bound.result (omega (arith, l, t)) t c.bound_for-bound.ensures.value c.agrees_with.ensures c.if-not-agrees_with.true c.loop-i.invariant

pub loop-i-preserved : goal.loop-i-preserved
loop-i-preserved c =
    let l = c.requires.lengths in
    let t = c.loop-i-test.true in
    next_agrees c.args.weights c.args.terms.now c.args.goal c.args.weights.multipliers.now c.args.weights.literals.now c.loop-i.i (record { term = 0; positive = false }) c.agrees_with.result c.bound_for-bound.result refl refl (omega (arith, l, t)) t c.bound_for-bound.ensures.value c.agrees_with.ensures c.if-not-agrees_with.false c.loop-i.invariant

pub returns : goal.returns
returns c = let t = c.loop-i-test.false in all_agree c.args.weights c.args.terms.now c.args.goal c.loop-i.i (omega (arith, t)) c.loop-i.invariant
