use Rattle.method.specs.Machine.{in_types}
use Rattle.ref_machine.proofs.Starting.{too_many}
use Rattle.ref_machine.proofs.start.in_types.Goals as goal

pub returns-then-i-variables : goal.returns-then-i-variables
returns-then-i-variables c = too_many c.args.variables.now c.args.values.now c.loop-i.i (in_types c.args.variables.now c.args.values.now) c.if-i-variables.true c.loop-i-test.true c.loop-i.invariant
