use Rattle.upgrade_blocks.proofs.Numbering.{own_are}
use Rattle.upgrade_blocks.proofs.trees.own_terms.Goals as goal

pub returns : goal.returns
returns c = λ f s. own_are f c.new-own.result c.number.new.target c.new-own.ensures c.known.ensures (c.in_ok-number.ensures.numbered f s.tree)
