use Rattle.condition_claims.proofs.Onward.{ClaimsTo}
use Rattle.condition_claims.proofs.claims.claimed_terms.Given as goal

abbrev pub invariant-loop-claimed : goal.invariant-loop-claimed
invariant-loop-claimed l = ClaimsTo l.a.program.now l.a l.st l.all l.fn.walk.graph l.walk.graph l.fn.walk.path.items l.walk.path.items l.objects l.claimed-index
