use Rattle.std.proofs.Common.{◌≡◌, None, length, replicate, ◌∙◌, rules}
use Rattle.certificate_upgrade.specs.Lemmas.{lemma_conclusions, trees_of}
use Rattle.vcc_upgrade.proofs.Written.{block_kept}
use Rattle.vcc_upgrade.proofs.blocks.keep_block.Goals as goal

pub returns : goal.returns
returns c =
    let made_none : c.in_ok-nodes.nodes.items ≡ replicate (length c.args.block.now.steps) None = search rules in
    λ l ts cs made. block_kept l ts (trees_of (lemma_conclusions cs)) c.args.block.now c.deref.result.now c.rewrite.result (c.deref.ensures.value ∙ made_none) (λ trees marks. c.rewrite.ensures l ts cs trees made marks)
