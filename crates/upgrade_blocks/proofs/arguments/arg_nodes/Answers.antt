use Rattle.std.proofs.Common.{List, ℕ, ap, ◌∙◌}
use Rattle.block_layout.specs.Trees.{named}
use Rattle.certificate_upgrade.specs.Conclusions.{or_empty}
use Rattle.upgrade_blocks.proofs.arguments.arg_nodes.Goals as goal

pub returns : goal.returns
returns c = c.in_ok-nodes.ensures ∙ ap (λ (ns : List ℕ). or_empty (named c.args.names.now ns)) (c.deref.ensures.value ∙ c.in_ok-numbers.ensures)
