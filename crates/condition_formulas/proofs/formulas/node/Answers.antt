use Rattle.std.specs.Int.{w128}
use Rattle.std.proofs.lemmas.Int.{to_z-of_z}
use Rattle.condition_formulas.proofs.Rows.{node_is}
use Rattle.condition_formulas.proofs.formulas.node.Goals as goal

pub returns-clause-stands : goal.returns-clause-stands
returns-clause-stands c = λ fs all. rw (to_z-of_z w128 c.args.index c.ranges.index) at (node_is fs c.in_ok-id.ensures.stands all)
