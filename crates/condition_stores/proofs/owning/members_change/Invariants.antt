use Rattle.condition_stores.proofs.Walking.{Changing}
use Rattle.condition_stores.proofs.owning.members_change.Given as goal

abbrev pub invariant-loop-q : goal.invariant-loop-q
invariant-loop-q l = Changing l.a.program.now l.a l.change l.o l.members l.fn.st l.fn.walk.graph l.walk.graph l.fn.walk.path.items l.walk.path.items l.state l.q-index
