use Rattle.std.proofs.Common.{◌≡◌, ◌++◌, take, map}
use Rattle.c_syntax.specs.Views as view
use Rattle.typing_spec.specs.DeclaredVariables.{parameter_names}
use Rattle.typing_program.specs.Names.{held}
use Rattle.typing_program.proofs.variables.add_parameters.Given as goal

abbrev pub invariant-loop-x : goal.invariant-loop-x
invariant-loop-x l = held l.names.items ≡ held l.fn.names.items ++ parameter_names (map view.parameter (take l.x-index l.all))
