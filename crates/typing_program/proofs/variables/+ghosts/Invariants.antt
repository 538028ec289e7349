use Rattle.std.proofs.Common.{◌≡◌, ◌++◌, take, map}
use Rattle.std.specs.Prelude.{flat_map}
use Rattle.c_syntax.specs.Views as view
use Rattle.typing_spec.specs.DeclaredVariables.{ghost_names}
use Rattle.typing_program.specs.Names.{held}
use Rattle.typing_program.proofs.variables.+ghosts.Given as goal

abbrev pub invariant-add_ghosts-loop-x : goal.invariant-add_ghosts-loop-x
invariant-add_ghosts-loop-x l = held l.names.items ≡ held l.fn.names.items ++ flat_map ghost_names (map view.ghost (take l.x-index l.all))
