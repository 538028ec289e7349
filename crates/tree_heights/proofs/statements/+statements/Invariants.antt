use Rattle.std.specs.Prelude.{map}
use Rattle.c_syntax.specs.Views as view
use Rattle.tree_heights.specs.Heights as h
use Rattle.tree_heights.specs.Parts as p
use Rattle.tree_heights.proofs.Lists.{Left}
use Rattle.tree_heights.proofs.statements.+statements.Given as goal

abbrev pub decreases-statement : goal.decreases-statement
decreases-statement l = p.statement (view.stm l.x.now)

abbrev pub decreases-greatest_statement : goal.decreases-greatest_statement
decreases-greatest_statement l = p.all p.statement (map view.stm l.all.now)

abbrev pub invariant-greatest_statement-loop-x : goal.invariant-greatest_statement-loop-x
invariant-greatest_statement-loop-x l = Left h.statement p.statement view.stm l.all l.x-index l.most
