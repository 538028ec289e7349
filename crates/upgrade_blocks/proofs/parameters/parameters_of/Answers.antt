use Rattle.std.specs.Int.{w128}
use Rattle.std.proofs.lemmas.Int.{to_z-of_z}
use Rattle.upgrade_blocks.proofs.parameters.parameters_of.Goals as goal

pub returns : goal.returns
returns c = rw (to_z-of_z w128 c.args.number c.ranges.number) at (rw (to_z-of_z w128 c.args.part c.ranges.part) at c.part_at.ensures.is)
