use Rattle.condition_claims.proofs.Noted.{Defers}
use Rattle.condition_claims.proofs.claims.defer.Given as goal

abbrev pub invariant-loop-o : goal.invariant-loop-o
invariant-loop-o l = Defers l.fn.changed.items l.changed.items l.objects l.o-index
