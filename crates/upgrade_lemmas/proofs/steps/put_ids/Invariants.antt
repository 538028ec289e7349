use Rattle.upgrade_lemmas.proofs.StepNumbers.{Putting}
use Rattle.upgrade_lemmas.proofs.steps.put_ids.Given as goal

abbrev pub invariant-loop-place : goal.invariant-loop-place
invariant-loop-place l = Putting l.marks l.numbers l.ids l.fn.made.items l.made.items l.place l.next
