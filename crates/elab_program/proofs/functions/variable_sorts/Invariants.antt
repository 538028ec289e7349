use Rattle.std.proofs.Common.{◌≡◌, ◌++◌, map, drop}
use Rattle.typing_symbols.specs.Scopes.{variable}
use Rattle.typing_symbols.specs.Whole.{program}
use Rattle.elab_program.specs.Functions.{variable_sort}
use Rattle.elab_program.proofs.functions.variable_sorts.Given as goal

abbrev pub invariant-loop-one : goal.invariant-loop-one
invariant-loop-one l =
    let f = variable_sort (program l.declarations) in
    l.sorts.items ++ map f (map variable (drop l.one-index l.all)) ≡ map f (map variable l.all)
