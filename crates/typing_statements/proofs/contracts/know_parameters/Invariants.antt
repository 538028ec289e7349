use Rattle.std.proofs.Common.{◌≡◌, take, map}
use Rattle.c_syntax.specs.Views as view
use Rattle.typing_symbols.specs.Scopes.{known}
use Rattle.typing_statements.specs.Parts.{with_parameters}
use Rattle.typing_statements.proofs.contracts.know_parameters.Given as goal

abbrev pub invariant-loop-x : goal.invariant-loop-x
invariant-loop-x l = known l.variables ≡ with_parameters l.is_ghost (map view.parameter (take l.x-index l.all)) (known l.fn.variables)
