use Rattle.method.specs.Expressions.{may_write, is_listed}
use Rattle.machine_values.specs.Spots.{spot_at}
use Rattle.machine_objects.proofs.Storing.{either_first, either_second}
use Rattle.machine_objects.proofs.store.may_reach.Goals as goal

pub returns-then-may_write : goal.returns-then-may_write
returns-then-may_write c x = let s = spot_at x c.args.at.now in either_first (may_write s c.args.o) (is_listed s c.args.o) c.may_write.result (c.may_write.ensures x) c.if-may_write.true

pub returns-else-may_write : goal.returns-else-may_write
returns-else-may_write c x = let s = spot_at x c.args.at.now in either_second (may_write s c.args.o) (is_listed s c.args.o) c.may_write.result c.is_listed.result (c.may_write.ensures x) c.if-may_write.false (c.is_listed.ensures x)
