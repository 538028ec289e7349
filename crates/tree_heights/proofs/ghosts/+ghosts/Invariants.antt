use Rattle.std.specs.Prelude.{map}
use Rattle.c_syntax.specs.Views as view
use Rattle.tree_heights.specs.Heights as h
use Rattle.tree_heights.specs.Parts as p
use Rattle.tree_heights.proofs.Lists.{Left}
use Rattle.tree_heights.proofs.ghosts.+ghosts.Given as goal

abbrev pub decreases-ghost_statement : goal.decreases-ghost_statement
decreases-ghost_statement l = p.ghost_statement (view.ghost l.x.now)

abbrev pub decreases-greatest_ghost_statement : goal.decreases-greatest_ghost_statement
decreases-greatest_ghost_statement l = p.all p.ghost_statement (map view.ghost l.all.now)

abbrev pub invariant-greatest_ghost_statement-loop-x : goal.invariant-greatest_ghost_statement-loop-x
invariant-greatest_ghost_statement-loop-x l = Left h.ghost_statement p.ghost_statement view.ghost l.all l.x-index l.most
