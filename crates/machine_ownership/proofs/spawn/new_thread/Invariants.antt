use Rattle.std.proofs.Common.{◌-◌}
use Rattle.machine_ownership.proofs.Searching.{Tried}
use Rattle.machine_ownership.proofs.spawn.new_thread.Given as goal

abbrev pub invariant-loop-from : goal.invariant-loop-from
invariant-loop-from l = Tried l.h l.fn.from l.serial

abbrev pub decreases-loop-from : goal.decreases-loop-from
decreases-loop-from l = 4294967296 - l.serial
