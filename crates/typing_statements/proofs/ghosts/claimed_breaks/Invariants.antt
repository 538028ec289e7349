use Rattle.std.proofs.Common.{◌≡◌, take}
use Rattle.c_syntax.specs.Views.{exps}
use Rattle.typing_expressions.specs.Views.{context, maybe_broken}
use Rattle.typing_statements.specs.Breaks as spec
use Rattle.typing_statements.proofs.ghosts.claimed_breaks.Given as goal

abbrev pub invariant-loop-x : goal.invariant-loop-x
invariant-loop-x l = maybe_broken l.so_far ≡ spec.claimed_breaks (context l.context) (exps (take l.x-index l.objects))
