use Rattle.std.proofs.Common.{◌∙◌}
use Rattle.upgrade_lemmas.specs.Cited.{citations}
use Rattle.upgrade_lemmas.proofs.Citing.{block_is}
use Rattle.upgrade_lemmas.proofs.rewriting.rewrite.Goals as goal

pub returns : goal.returns
returns c = λ l ts cs trees are marks.
    block_is l ts cs c.args.lemmas.now are trees c.args.block.now c.new.result c.args.marks.now c.in_ok-terms.terms.items c.in_ok-steps.steps.items marks.each (c.in_ok-terms.ensures ∙ c.terms.ensures)
    (c.in_ok-steps.ensures ∙ (λ k. citations (c.as_slice.ensures.value k) c.args.marks.now (c.steps.ensures k))) c.new.ensures.terms c.new.ensures.steps
