use Rattle.machine_ownership.proofs.Searching.{tried_none, least_is}
use Rattle.machine_ownership.proofs.spawn.new_thread.Goals as goal

pub loop-from-init : goal.loop-from-init
loop-from-init c = tried_none c.args.h.now c.args.from

pub returns-then-is_idle-clause-ok : goal.returns-then-is_idle-clause-ok
returns-then-is_idle-clause-ok c y finite = least_is c.args.h.now c.args.from c.loop-from.serial c.is_idle.result c.loop-from.invariant c.is_idle.ensures c.if-is_idle.true y finite
