use Rattle.condition_branches.proofs.Guarding.{NotedClaims}
use Rattle.condition_branches.proofs.deferred.add_made.Given as goal

abbrev pub invariant-loop-claim : goal.invariant-loop-claim
invariant-loop-claim l = NotedClaims l.test l.fn.made.items l.fn.claims.items l.made.items l.claim-iterator.rest.items
