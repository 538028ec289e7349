use Rattle.std.proofs.Common.{◌≡◌, drop}
use Rattle.c_syntax.specs.Grammar.{exps_of}
use Rattle.c_syntax.specs.Views.{exps}
use Rattle.typing_spec.specs.Trees as trees
use Rattle.typing_expressions.proofs.same.+same.Given as goal

abbrev pub invariant-same_row-loop-x : goal.invariant-same_row-loop-x
invariant-same_row-loop-x l = trees.same_row (exps_of (exps l.left)) (exps_of (exps l.fn.right)) ≡ trees.same_row (exps_of (exps (drop l.x-index l.left))) (exps_of (exps l.others))
