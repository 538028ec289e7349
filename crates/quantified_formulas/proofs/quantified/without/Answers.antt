use Rattle.std.proofs.Common.{eq-eqb}
use Rattle.std.proofs.lemmas.Bool.{ne_eqb}
use Rattle.quantified_formulas.proofs.Counting.{kept_one, left_out}
use Rattle.quantified_formulas.proofs.quantified.without.Goals as goal

pub loop-one-preserved-then-one-number : goal.loop-one-preserved-then-one-number
loop-one-preserved-then-one-number c =
    left_out c.args.number c.args.numbers.now c.loop-one.one-index c.loop-one.others.items _ c.loop-one-test.true (eq-eqb _ _ c.if-one-number.true) c.loop-one.invariant

pub loop-one-preserved : goal.loop-one-preserved
loop-one-preserved c =
    kept_one c.args.number c.args.numbers.now c.loop-one.one-index c.loop-one.others.items c.push.new.self.items _ c.loop-one-test.true (ne_eqb _ _ c.if-one-number.false) c.in_ok-push.ensures.items c.loop-one.invariant
