use Rattle.c_syntax.specs.Views.{exp, exps}
use Rattle.tree_heights.specs.Heights as h
use Rattle.tree_heights.specs.Parts as p
use Rattle.tree_heights.proofs.Lists.{Left}
use Rattle.tree_heights.proofs.expressions.+expressions.Given as goal

abbrev pub decreases-expression : goal.decreases-expression
decreases-expression l = p.expression (exp l.x.now)

abbrev pub decreases-greatest_expression : goal.decreases-greatest_expression
decreases-greatest_expression l = p.all p.expression (exps l.all.now)

abbrev pub invariant-greatest_expression-loop-x : goal.invariant-greatest_expression-loop-x
invariant-greatest_expression-loop-x l = Left h.expression p.expression exp l.all l.x-index l.most
