use Rattle.std.proofs.Common.{◌≡◌, ◌≤◌, max, map, drop}
use Rattle.method.specs.Machine.{next_number}
use Rattle.ref_machine.specs.States.{thread_of}
use Rattle.ref_machine.proofs.step.next_number.Given as goal

abbrev pub invariant-loop-thread : goal.invariant-loop-thread
invariant-loop-thread l = record {
  some : 1 ≤ l.next;
  so_far : max l.next (next_number (map thread_of (drop l.thread-index l.threads))) ≡ next_number (map thread_of l.threads);
}
