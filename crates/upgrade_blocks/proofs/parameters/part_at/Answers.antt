use Rattle.std.specs.Int.{w128}
use Rattle.std.proofs.lemmas.Int.{to_z-of_z}
use Rattle.upgrade_blocks.proofs.Parts.{no_axiom, no_part, the_part}
use Rattle.upgrade_blocks.proofs.parameters.part_at.Goals as goal

pub returns-in_default : goal.returns-in_default
returns-in_default c = no_axiom c.args.axioms.now c.args.number c.args.part (rw (to_z-of_z w128 c.args.number c.ranges.number) at c.in_default.ensures)

pub returns-in_default-item : goal.returns-in_default-item
returns-in_default-item c = no_part c.args.axioms.now c.args.number c.args.part c.in-Some.parts (rw (to_z-of_z w128 c.args.number c.ranges.number) at c.in-Some.ensures) (rw (to_z-of_z w128 c.args.part c.ranges.part) at c.in_default-item.ensures)

pub returns : goal.returns
returns c = the_part c.args.axioms.now c.args.number c.args.part c.in-Some.parts c.in-Some-item.parameters (rw (to_z-of_z w128 c.args.number c.ranges.number) at c.in-Some.ensures) (rw (to_z-of_z w128 c.args.part c.ranges.part) at c.in-Some-item.ensures)
