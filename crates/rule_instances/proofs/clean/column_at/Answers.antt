use Rattle.std.proofs.Common.{arith}
use Rattle.std.specs.Int.{w128}
use Rattle.std.proofs.lemmas.Int.{ints, to_z-of_z}
use Rattle.rule_instances.proofs.Heaps.{negative_column, column_here}
use Rattle.rule_instances.proofs.clean.column_at.Goals as goal

pub returns-then-number-lt0 : goal.returns-then-number-lt0
returns-then-number-lt0 c = negative_column c.args.program.now c.args.number (omega (arith, ints, rw (to_z-of_z w128 c.args.number c.ranges.number) at c.if-number-lt0.true))

pub returns : goal.returns
returns c = column_here c.args.program.now c.args.number (λ below. omega (arith, ints, below, rw (to_z-of_z w128 c.args.number c.ranges.number) at c.if-number-lt0.false)) (rw (to_z-of_z w128 c.args.number c.ranges.number) at c.unsigned_abs.ensures.value) c.column_of.ensures
