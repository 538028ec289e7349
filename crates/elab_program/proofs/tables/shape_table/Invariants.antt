use Rattle.std.proofs.Common.{◌≡◌, ◌++◌, map, drop}
use Rattle.typed_program.specs.Shapes.{table_shape}
use Rattle.typed_program.specs.Views as seen
use Rattle.elab_program.proofs.tables.shape_table.Given as goal

abbrev pub invariant-loop-x : goal.invariant-loop-x
invariant-loop-x l =
    let f = table_shape (map seen.shape l.shapes) in
    map seen.shape l.so_far.items ++ map f (map seen.shape (drop l.x-index l.shapes)) ≡ map f (map seen.shape l.shapes)
