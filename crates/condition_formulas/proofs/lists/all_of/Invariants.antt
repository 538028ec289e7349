use Rattle.conditions.specs.Formulas.{all_of}
use Rattle.condition_formulas.proofs.Joins.{From}
use Rattle.condition_formulas.proofs.lists.all_of.Given as goal

abbrev pub invariant-loop-i : goal.invariant-loop-i
invariant-loop-i l = From l.fn.graph l.graph all_of l.ids l.i l.all

abbrev pub decreases-loop-i : goal.decreases-loop-i
decreases-loop-i l = l.i
