use Rattle.std.proofs.Common.{map, arith}
use Rattle.ref_machine.specs.States.{thread_of}
use Rattle.ref_machine.proofs.Threads.{one_or_more}
use Rattle.ref_machine.proofs.step.next_number.Goals as goal

pub loop-thread-init : goal.loop-thread-init
loop-thread-init c = let more = one_or_more (map thread_of c.args.threads.now) in record { some = omega arith; so_far = omega arith }
