use Rattle.c_syntax.specs.Views as view
use Rattle.tree_heights.specs.Heights as h
use Rattle.tree_heights.specs.Parts as p
use Rattle.tree_heights.proofs.Lists.{Left}
use Rattle.tree_heights.proofs.items.height.Given as goal

abbrev pub invariant-loop-x : goal.invariant-loop-x
invariant-loop-x l = Left h.item p.item view.item l.x-items l.x-index l.most
