use Rattle.conditions.specs.Formulas.{closed}
use Rattle.condition_formulas.proofs.Joins.{UpTo}
use Rattle.condition_actions.proofs.blocks.each_closed.Given as goal

abbrev pub invariant-loop-o : goal.invariant-loop-o
invariant-loop-o l = UpTo l.fn.graph l.graph l.heap closed l.objects l.tests.items l.o-index
