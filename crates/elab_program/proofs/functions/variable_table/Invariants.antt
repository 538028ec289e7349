use Rattle.std.proofs.Common.{◌≡◌, ◌++◌, map, drop}
use Rattle.typing_symbols.specs.Scopes.{variable}
use Rattle.typing_symbols.specs.Whole.{program}
use Rattle.typed_program.specs.Tables as tables
use Rattle.typed_program.specs.Views as seen
use Rattle.elab_program.proofs.functions.variable_table.Given as goal

abbrev pub invariant-loop-x : goal.invariant-loop-x
invariant-loop-x l =
    let f = tables.variable (program l.declarations) in
    map seen.variable l.so_far.items ++ map f (map variable (drop l.x-index l.all)) ≡ map f (map variable l.all)
