use Rattle.std.proofs.Common.{ap, ◌∙◌}
use Rattle.certificate_upgrade.specs.Upgrade.{citation}
use Rattle.upgrade_lemmas.proofs.Citing.{cited_next}
use Rattle.upgrade_lemmas.proofs.rewriting.cite_all.Goals as goal

pub loop-i-preserved : goal.loop-i-preserved
loop-i-preserved c =
    cited_next c.args.places.now c.args.marks.now c.args.steps.now c.loop-i.new.items c.push.new.self.items c.loop-i.i c.index-steps-i.result c.in_ok-other.other c.loop-i.invariant c.loop-i-test.true c.index-steps-i.is
    (c.in_ok-other.ensures ∙ ap (citation c.index-steps-i.result) c.lemma_at.ensures) c.in_ok-push.ensures.items
