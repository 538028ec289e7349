use Rattle.quantified_formulas.proofs.Rows.{Constants}
use Rattle.quantified_formulas.proofs.members.references_from.Given as goal

abbrev pub invariant-loop-i : goal.invariant-loop-i
invariant-loop-i l = Constants l.fn.graph l.graph l.first l.count l.all.items l.i
