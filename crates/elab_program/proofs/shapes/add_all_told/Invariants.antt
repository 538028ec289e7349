use Rattle.std.proofs.Common.{◌≡◌, ◌++◌, map, drop}
use Rattle.std.specs.Prelude.{flat_map}
use Rattle.elab_shapes.specs.Views.{sorts}
use Rattle.elab_sites.specs.Views.{occurrence}
use Rattle.typed_program.specs.Tables as tables
use Rattle.typed_program.specs.Views as seen
use Rattle.elab_program.proofs.shapes.add_all_told.Given as goal

abbrev pub invariant-loop-x : goal.invariant-loop-x
invariant-loop-x l =
    let each = tables.told_shapes (sorts l.sorts) in
    map seen.shape l.so_far.items ++ flat_map each (map occurrence (drop l.x-index l.all)) ≡ map seen.shape l.fn.so_far.items ++ flat_map each (map occurrence l.all)
