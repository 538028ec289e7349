use Rattle.conditions.specs.Actions.{change_counts}
use Rattle.condition_formulas.specs.Standing.{StandAll}
use Rattle.condition_claims.proofs.Each.{Folds}
use Rattle.condition_claims.proofs.heaps.change_counts.Given as goal

abbrev pub invariant-loop-o : goal.invariant-loop-o
invariant-loop-o l = Folds (λ (u : Unit {0}). Unit {0}) (StandAll l.fn.graph l.objects) (λ u. change_counts l.way) l.fn.graph l.graph l.fn.heap l.changed l.o-index
