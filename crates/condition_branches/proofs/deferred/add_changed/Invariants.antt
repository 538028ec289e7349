use Rattle.condition_branches.proofs.Guarding.{Noted}
use Rattle.condition_branches.proofs.deferred.add_changed.Given as goal

abbrev pub invariant-loop-object : goal.invariant-loop-object
invariant-loop-object l = Noted l.test l.fn.changed.items l.fn.objects.items l.changed.items l.object-iterator.rest.items
