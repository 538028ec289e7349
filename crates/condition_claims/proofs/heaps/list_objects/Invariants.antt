use Rattle.conditions.specs.Actions.{list_objects}
use Rattle.condition_formulas.specs.Standing.{StandsAs, StandAll}
use Rattle.condition_claims.proofs.Each.{Folds}
use Rattle.condition_claims.proofs.heaps.list_objects.Given as goal

abbrev pub invariant-loop-o : goal.invariant-loop-o
invariant-loop-o l = Folds (StandsAs l.fn.graph l.claim) (StandAll l.fn.graph l.objects) list_objects l.fn.graph l.graph l.fn.heap l.listing l.o-index
