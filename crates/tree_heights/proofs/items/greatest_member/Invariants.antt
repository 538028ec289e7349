use Rattle.c_syntax.specs.Views as view
use Rattle.tree_heights.specs.Heights as h
use Rattle.tree_heights.specs.Parts as p
use Rattle.tree_heights.proofs.Lists.{Left}
use Rattle.tree_heights.proofs.items.greatest_member.Given as goal

abbrev pub invariant-loop-x : goal.invariant-loop-x
invariant-loop-x l = Left h.member p.member view.member l.all l.x-index l.most
