use Rattle.std.proofs.Common.{◌≡◌, ◌++◌, take, map}
use Rattle.std.specs.Prelude.{flat_map}
use Rattle.c_syntax.specs.Views as view
use Rattle.typing_spec.specs.DeclaredVariables.{statement_names}
use Rattle.typing_program.specs.Names.{held}
use Rattle.typing_program.proofs.variables.+statements.Given as goal

abbrev pub invariant-add_statements-loop-x : goal.invariant-add_statements-loop-x
invariant-add_statements-loop-x l = held l.names.items ≡ held l.fn.names.items ++ flat_map statement_names (map view.stm (take l.x-index l.all))
