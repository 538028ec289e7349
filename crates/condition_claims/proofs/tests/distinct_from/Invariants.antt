use Rattle.conditions.specs.Formulas.{not', eq}
use Rattle.condition_formulas.specs.Standing.{StandsAs, StandAll}
use Rattle.condition_claims.proofs.Each.{OfEach}
use Rattle.condition_claims.proofs.tests.distinct_from.Given as goal

abbrev pub invariant-loop-q : goal.invariant-loop-q
invariant-loop-q l = OfEach (StandsAs l.fn.graph l.o) (StandAll l.fn.graph l.earlier) (λ f g. not' (eq f g)) l.fn.graph l.graph l.all.items l.q-index
