use Rattle.conditions.specs.Formulas.{any_of}
use Rattle.condition_formulas.proofs.Joins.{From}
use Rattle.condition_formulas.proofs.lists.any_of.Given as goal

abbrev pub invariant-loop-i : goal.invariant-loop-i
invariant-loop-i l = From l.fn.graph l.graph any_of l.ids l.i l.any

abbrev pub decreases-loop-i : goal.decreases-loop-i
decreases-loop-i l = l.i
