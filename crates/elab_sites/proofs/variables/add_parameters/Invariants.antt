use Rattle.std.proofs.Common.{◌≡◌, ◌++◌, take, map}
use Rattle.c_syntax.specs.Views as view
use Rattle.typing_symbols.specs.Scopes.{variable}
use Rattle.typed_program.specs.Variables.{parameter}
use Rattle.elab_sites.proofs.variables.add_parameters.Given as goal

abbrev pub invariant-loop-x : goal.invariant-loop-x
invariant-loop-x l = map variable l.declared.items ≡ map variable l.fn.declared.items ++ map (parameter l.is_ghost) (map view.parameter (take l.x-index l.all))
