use Rattle.conditions.specs.Formulas.{eq}
use Rattle.condition_formulas.proofs.Joins.{UpTo}
use Rattle.condition_formulas.proofs.lists.is_any.Given as goal

abbrev pub invariant-loop-id : goal.invariant-loop-id
invariant-loop-id l = UpTo l.fn.graph l.graph l.x eq l.ids l.all.items l.id-index
