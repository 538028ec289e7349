use Rattle.std.proofs.Common.{◌≡◌, take}
use Rattle.c_syntax.specs.Views.{exps}
use Rattle.typing_expressions.specs.Judging as spec
use Rattle.typing_expressions.specs.Views.{context, kind, row_of}
use Rattle.typing_expressions.proofs.expressions.+expressions.Given as goal

abbrev pub invariant-row-loop-x : goal.invariant-row-loop-x
invariant-row-loop-x l = row_of l.so_far ≡ spec.row (kind l.fn.wanted) (context l.context) (exps (take l.x-index l.all))
