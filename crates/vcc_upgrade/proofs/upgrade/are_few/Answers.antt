use Rattle.std.proofs.Common.{length, ap, arith}
use Rattle.vcc_upgrade.proofs.Counts.{at_start, at_next, at_end, too_many}
use Rattle.vcc_upgrade.proofs.upgrade.are_few.Goals as goal

pub loop-lemma-init : goal.loop-lemma-init
loop-lemma-init c = at_start c.args.lemmas.now

pub loop-lemma-preserved : goal.loop-lemma-preserved
loop-lemma-preserved c =
    at_next c.loop-lemma.left (length c.terms-count.result.now) c.args.lemmas.now c.loop-lemma.lemma-index c.lemma-item.result
    c.loop-lemma-test.true c.lemma-item.is (ap length c.terms-count.ensures) c.if-count-left.false c.loop-lemma.invariant

pub returns-then-count-left-clause-many : goal.returns-then-count-left-clause-many
returns-then-count-left-clause-many c = λ _.
    too_many c.loop-lemma.left (length c.terms-count.result.now) c.args.lemmas.now c.loop-lemma.lemma-index c.lemma-item.result
    c.loop-lemma-test.true c.lemma-item.is (ap length c.terms-count.ensures) c.if-count-left.true c.loop-lemma.invariant

pub returns-clause-few : goal.returns-clause-few
returns-clause-few c = λ _. at_end c.loop-lemma.left c.args.lemmas.now c.loop-lemma.lemma-index (omega arith) c.loop-lemma.invariant
