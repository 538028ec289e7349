use Rattle.conditions.specs.Admissible.{any_locals}
use Rattle.condition_claims.proofs.Onward.{Onward}
use Rattle.condition_claims.proofs.sites.any_locals.Given as goal

abbrev pub invariant-loop-i : goal.invariant-loop-i
invariant-loop-i l = Onward (any_locals l.f) l.fn.walk.graph l.walk.graph l.fn.walk.path.items l.walk.path.items l.fn.st l.state l.variables l.i-index
