use Rattle.condition_formulas.proofs.Nodes.{same_nodes}
use Rattle.condition_branches.proofs.joins.same.Goals as goal

pub returns : goal.returns
returns c = λ f g h k. same_nodes c.known.ensures h k
