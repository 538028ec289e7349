use Rattle.std.proofs.Common.{◌≡◌, ◌==◌, drop}
use Rattle.object_types.specs.Sets.{some}
use Rattle.ref_machine.proofs.step.has_number.Given as goal

abbrev pub invariant-loop-thread : goal.invariant-loop-thread
invariant-loop-thread l = some (λ th. th.number == l.number) (drop l.thread-index l.threads) ≡ some (λ th. th.number == l.number) l.threads
