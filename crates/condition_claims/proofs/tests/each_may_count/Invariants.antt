use Rattle.terms.specs.Formula.{Formula}
use Rattle.conditions.specs.Actions.{may_count}
use Rattle.conditions.specs.Code as spec
use Rattle.condition_formulas.specs.Standing.{StandsAs, StandAll}
use Rattle.condition_code.specs.States.{IsSpot}
use Rattle.condition_claims.proofs.Each.{OfEach}
use Rattle.condition_claims.proofs.tests.each_may_count.Given as goal

abbrev pub invariant-loop-o : goal.invariant-loop-o
invariant-loop-o l = OfEach (λ (s : spec.Spot × Formula). IsSpot l.fn.graph l.a s.0 × StandsAs l.fn.graph l.heap s.1) (StandAll l.fn.graph l.objects) (λ s. may_count l.a.program.now s.0 s.1) l.fn.graph l.graph l.all.items l.o-index
