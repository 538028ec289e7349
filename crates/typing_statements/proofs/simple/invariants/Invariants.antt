use Rattle.std.proofs.Common.{◌≡◌, take, map}
use Rattle.c_syntax.specs.Views as view
use Rattle.typing_spec.specs.Contexts.{LoopInvariant}
use Rattle.typing_spec.specs.Pieces.{invariants}
use Rattle.typing_expressions.specs.Violations.{violations}
use Rattle.typing_expressions.specs.Views.{context, findings}
use Rattle.typing_statements.proofs.simple.invariants.Given as goal

abbrev pub invariant-loop-x : goal.invariant-loop-x
invariant-loop-x l = findings l.so_far ≡ violations (invariants LoopInvariant (context l.fn.context) (map view.invariant (take l.x-index l.all)))
