use Rattle.condition_claims.proofs.Noted.{Claimables}
use Rattle.condition_claims.proofs.tests.claimable_types.Given as goal

abbrev pub invariant-loop-i : goal.invariant-loop-i
invariant-loop-i l = Claimables l.fn.graph l.graph l.structs l.all.items l.i
