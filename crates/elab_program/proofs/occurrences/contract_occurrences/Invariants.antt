use Rattle.std.proofs.Common.{◌≡◌, ◌++◌, map, drop}
use Rattle.std.specs.Prelude.{flat_map}
use Rattle.c_syntax.specs.Views as view
use Rattle.elab_sites.specs.Views.{occurrence}
use Rattle.elab_code.specs.Views.{around}
use Rattle.typed_program.specs.Tables as tables
use Rattle.elab_program.proofs.occurrences.contract_occurrences.Given as goal

abbrev pub invariant-loop-x : goal.invariant-loop-x
invariant-loop-x l =
    let each = tables.clause_occurrences (around l.around) in
    map occurrence l.so_far.items ++ flat_map each (map view.clause (drop l.x-index l.all)) ≡ map occurrence l.fn.so_far.items ++ flat_map each (map view.clause l.all)
