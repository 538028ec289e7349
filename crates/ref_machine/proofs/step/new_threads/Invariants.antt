use Rattle.std.proofs.Common.{◌≡◌, ◌++◌, map}
use Rattle.ref_machine.specs.States.{thread_of}
use Rattle.ref_machine.specs.Plans.{new_thread}
use Rattle.ref_machine.proofs.step.new_threads.Given as goal

abbrev pub invariant-loop-context : goal.invariant-loop-context
invariant-loop-context l = map thread_of l.threads.items ++ map (new_thread l.program) l.context-iterator.rest.items ≡ map (new_thread l.program) l.fn.started.items
