use Rattle.condition_formulas.proofs.Walks.{Turn}
use Rattle.condition_formulas.proofs.constants.+visit.Given as goal

abbrev pub decreases-visit : goal.decreases-visit
decreases-visit l = l.id

abbrev pub invariant-loop-arg : goal.invariant-loop-arg
invariant-loop-arg l = Turn l.graph l.fn.seen.items l.fn.found.items l.arg-items l.seen.items l.found.items l.arg-index
