use Rattle.terms.specs.Formula.{Formula}
use Rattle.conditions.specs.Code as spec
use Rattle.condition_formulas.specs.Standing.{StandsAs, StandAll}
use Rattle.condition_claims.proofs.Each.{OfEach}
use Rattle.condition_claims.proofs.tests.each_inv.Given as goal

abbrev pub invariant-loop-o : goal.invariant-loop-o
invariant-loop-o l = OfEach (λ (s : Formula × Formula). StandsAs l.fn.graph l.before s.0 × StandsAs l.fn.graph l.after s.1) (StandAll l.fn.graph l.objects) (λ s o. spec.inv o s.0 s.1) l.fn.graph l.graph l.all.items l.o-index
