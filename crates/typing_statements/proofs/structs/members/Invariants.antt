use Rattle.std.proofs.Common.{◌≡◌, take, map}
use Rattle.std.specs.Prelude.{flat_map}
use Rattle.c_syntax.specs.Views as view
use Rattle.typing_statements.specs.Parts.{in_member}
use Rattle.typing_expressions.specs.Violations.{violations}
use Rattle.typing_expressions.specs.Views.{context, findings}
use Rattle.typing_statements.proofs.structs.members.Given as goal

abbrev pub invariant-loop-x : goal.invariant-loop-x
invariant-loop-x l = findings l.so_far ≡ violations (flat_map (in_member (context l.context)) (map view.member (take l.x-index l.all)))
