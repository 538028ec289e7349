use Rattle.std.specs.Prelude.{◌≡◌, ◌++◌, drop}
use Rattle.program_columns.specs.Columns.{shapes_columns}
use Rattle.program_columns.proofs.columns.add_shapes.Given as goal

abbrev pub invariant-loop-shape : goal.invariant-loop-shape
invariant-loop-shape l = l.columns.items ++ shapes_columns (drop l.shape-index l.shapes) ≡ l.fn.columns.items ++ shapes_columns l.shapes
