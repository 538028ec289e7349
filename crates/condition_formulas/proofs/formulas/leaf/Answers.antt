use Rattle.std.specs.Int.{w128}
use Rattle.std.proofs.lemmas.Int.{to_z-of_z}
use Rattle.condition_formulas.proofs.Rows.{none}
use Rattle.condition_formulas.proofs.formulas.leaf.Goals as goal

pub returns-clause-stands : goal.returns-clause-stands
returns-clause-stands c = rw (to_z-of_z w128 c.args.index c.ranges.index) at (c.node.ensures.stands _ none)
