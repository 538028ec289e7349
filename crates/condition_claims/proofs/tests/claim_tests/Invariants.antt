use Rattle.terms.specs.Formula.{Formula}
use Rattle.conditions.specs.Actions.{claim_tests}
use Rattle.conditions.specs.Code as spec
use Rattle.condition_formulas.specs.Standing.{StandsAs}
use Rattle.condition_code.specs.States.{IsSpot}
use Rattle.condition_claims.proofs.Each.{Behind}
use Rattle.condition_claims.proofs.tests.claim_tests.Given as goal

abbrev pub invariant-loop-i : goal.invariant-loop-i
invariant-loop-i l = Behind (λ (s : spec.Spot × Formula). IsSpot l.fn.graph l.a s.0 × StandsAs l.fn.graph l.heap s.1) (λ s. claim_tests l.a.program.now s.0 s.1) l.fn.graph l.graph l.objects l.all.items l.i
