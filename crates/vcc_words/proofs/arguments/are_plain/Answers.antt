use Rattle.std.proofs.Common.{refl, subst, sym}
use Rattle.std.proofs.lemmas.Bool.{both_ways, false≢true}
use Rattle.vcc_words.specs.Arguments.{IsPlain}
use Rattle.vcc_words.proofs.Plain.{rests_end, rests_next, rests_not, rests_start}
use Rattle.vcc_words.proofs.arguments.are_plain.Goals as goal

pub loop-word-init : goal.loop-word-init
loop-word-init c = rests_start c.args.words.now

pub returns-then-not-is_plain : goal.returns-then-not-is_plain
returns-then-not-is_plain c = (λ e. absurd (false≢true e), λ all. absurd (rests_not c.args.words.now c.loop-word.word-index c.word-item.result c.loop-word-test.true c.word-item.is (λ p. both_ways _ c.if-not-is_plain.true (c.is_plain.ensures.1 (subst IsPlain (sym c.as_str.ensures.value) p))) c.loop-word.invariant all))

pub loop-word-preserved : goal.loop-word-preserved
loop-word-preserved c = rests_next c.args.words.now c.loop-word.word-index c.word-item.result c.loop-word-test.true c.word-item.is (subst IsPlain c.as_str.ensures.value (c.is_plain.ensures.0 c.if-not-is_plain.false)) c.loop-word.invariant

pub returns : goal.returns
returns c = (λ _. rests_end c.args.words.now c.loop-word.word-index c.loop-word-test.false c.loop-word.invariant, λ _. refl)
