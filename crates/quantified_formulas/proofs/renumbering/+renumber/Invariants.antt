use Rattle.quantified_formulas.proofs.Renaming.{Turn}
use Rattle.quantified_formulas.proofs.renumbering.+renumber.Given as goal

abbrev pub decreases-renumber : goal.decreases-renumber
decreases-renumber l = l.id

abbrev pub invariant-loop-i : goal.invariant-loop-i
invariant-loop-i l = Turn l.places l.fn.known.items l.fn.graph l.graph l.args.items l.renumbered.items l.known.items l.i
