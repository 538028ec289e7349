use Rattle.std.proofs.Common.{arith}
use Rattle.upgrade_lemmas.proofs.LemmaOver.{turn_more, turn_end}
use Rattle.upgrade_lemmas.proofs.making.lemmas_of.Goals as goal

pub loop-conclusion-preserved : goal.loop-conclusion-preserved
loop-conclusion-preserved c =
    turn_more c.args.graph.now c.args.chosen.now c.loop-conclusion.terms c.lemma_of.new.terms c.loop-conclusion.lemmas.items c.push.new.self.items c.loop-conclusion.conclusion-index c.conclusion-item.result c.in_ok-lemma.lemma
    c.loop-conclusion.invariant c.loop-conclusion-test.true c.conclusion-item.is c.in_ok-lemma.ensures c.in_ok-push.ensures.items

pub returns : goal.returns
returns c = turn_end c.args.graph.now c.args.chosen.now c.loop-conclusion.terms c.loop-conclusion.lemmas.items c.loop-conclusion.conclusion-index c.loop-conclusion.invariant (omega arith)
