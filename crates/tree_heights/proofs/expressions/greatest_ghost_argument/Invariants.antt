use Rattle.c_syntax.specs.Views as view
use Rattle.tree_heights.specs.Heights as h
use Rattle.tree_heights.specs.Parts as p
use Rattle.tree_heights.proofs.Lists.{Left}
use Rattle.tree_heights.proofs.expressions.greatest_ghost_argument.Given as goal

abbrev pub invariant-loop-x : goal.invariant-loop-x
invariant-loop-x l = Left h.ghost_argument p.expression view.exp l.all l.x-index l.most
