use Rattle.condition_stores.proofs.Filling.{Joining}
use Rattle.condition_stores.proofs.heaps.add_members.Given as goal

abbrev pub invariant-loop-q : goal.invariant-loop-q
invariant-loop-q l = Joining l.fn.graph l.graph l.o l.members l.heap l.grown l.q-index
