use Rattle.conditions.specs.Admissible.{all_listed}
use Rattle.condition_claims.proofs.Onward.{Onward}
use Rattle.condition_claims.proofs.sites.list_all.Given as goal

abbrev pub invariant-loop-claimed : goal.invariant-loop-claimed
invariant-loop-claimed l = Onward all_listed l.fn.walk.graph l.walk.graph l.fn.walk.path.items l.walk.path.items l.fn.st l.state l.all l.claimed-index
