use Rattle.std.proofs.Common.{◌≡◌, ◌++◌, map, drop}
use Rattle.c_syntax.specs.Views as view
use Rattle.elab_sites.specs.Views.{occurrence}
use Rattle.elab_code.specs.Views.{around}
use Rattle.typed_program.specs.Sites.{Says}
use Rattle.typed_program.specs.Tables as tables
use Rattle.elab_program.proofs.occurrences.list_occurrences.Given as goal

abbrev pub invariant-loop-x : goal.invariant-loop-x
invariant-loop-x l =
    let a = around l.around in
    map occurrence l.so_far.items ++ map Says (tables.listed_items a l.next (map view.written (drop l.x-index l.all))) ≡ map occurrence l.fn.so_far.items ++ map Says (tables.listed_items a 0 (map view.written l.all))
