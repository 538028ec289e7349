use Rattle.std.proofs.Common.{◌≡◌, take, map}
use Rattle.std.specs.Prelude.{flat_map}
use Rattle.c_syntax.specs.Views as view
use Rattle.typing_symbols.specs.Whole.{program}
use Rattle.c_syntax.specs.Items.{Param}
use Rattle.typing_spec.specs.Pieces.{struct_name}
use Rattle.typing_expressions.specs.Violations.{violations}
use Rattle.typing_expressions.specs.Views.{findings}
use Rattle.typing_statements.proofs.contracts.parameter_types.Given as goal

abbrev pub invariant-loop-x : goal.invariant-loop-x
invariant-loop-x l = findings l.so_far ≡ violations (flat_map (λ (p : Param). struct_name (program l.declarations) p.ty) (map view.parameter (take l.x-index l.all)))
