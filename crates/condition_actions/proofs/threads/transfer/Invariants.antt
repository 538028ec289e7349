use Rattle.condition_actions.proofs.Transfers.{Passes}
use Rattle.condition_actions.proofs.threads.transfer.Given as goal

abbrev pub invariant-loop-o : goal.invariant-loop-o
invariant-loop-o l = Passes l.fn.graph l.graph l.thread l.heap l.objects l.o-index l.behind
