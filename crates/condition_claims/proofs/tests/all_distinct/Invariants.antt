use Rattle.conditions.specs.Actions.{all_distinct}
use Rattle.condition_claims.proofs.Each.{Behind}
use Rattle.condition_claims.proofs.tests.all_distinct.Given as goal

abbrev pub invariant-loop-i : goal.invariant-loop-i
invariant-loop-i l = Behind (λ (u : Unit {0}). Unit {0}) (λ u. all_distinct) l.fn.graph l.graph l.objects l.all.items l.i
