use Rattle.upgrade_lemmas.proofs.Numbering.{number_of}
use Rattle.upgrade_lemmas.proofs.making.number_node.Goals as goal

pub returns : goal.returns
returns c = λ f s. number_of f c.args.terms.now c.number.new.target c.in_ok-id.id c.known.ensures (c.in_ok-id.ensures.numbered f s.tree)
