use Rattle.std.proofs.Common.{◌≡◌, take, map}
use Rattle.c_syntax.specs.Views as view
use Rattle.typing_spec.specs.Conversions as uses
use Rattle.typing_expressions.specs.Views.{context}
use Rattle.typing_statements.specs.Views.{values, values_of}
use Rattle.typing_statements.proofs.arguments.arguments.Given as goal

abbrev pub invariant-loop-i : goal.invariant-loop-i
invariant-loop-i l = values_of l.so_far ≡ values (context l.context) (view.exps (take l.i l.all)) (uses.paired (context l.context) (view.exps (take l.i l.all)) (map view.parameter l.parameters))
