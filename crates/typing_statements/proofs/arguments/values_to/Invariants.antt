use Rattle.std.proofs.Common.{◌≡◌, take, map}
use Rattle.c_syntax.specs.Views as view
use Rattle.typing_spec.specs.Conversions as uses
use Rattle.typing_expressions.specs.Views.{context, maybe_kind}
use Rattle.typing_statements.specs.Views.{values, values_of}
use Rattle.typing_statements.proofs.arguments.values_to.Given as goal

abbrev pub invariant-loop-x : goal.invariant-loop-x
invariant-loop-x l = values_of l.so_far ≡ values (context l.context) (view.exps (take l.x-index l.all)) (map (uses.to (maybe_kind l.wanted) (context l.context)) (view.exps (take l.x-index l.all)))
