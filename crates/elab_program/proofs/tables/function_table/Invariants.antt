use Rattle.std.proofs.Common.{◌≡◌, ◌++◌, map, drop}
use Rattle.typing_symbols.specs.Whole.{program}
use Rattle.elab_assignments.specs.Views.{before}
use Rattle.typed_program.specs.Views as seen
use Rattle.elab_program.specs.Views.{declared}
use Rattle.elab_program.specs.Walks as spec
use Rattle.elab_program.proofs.tables.function_table.Given as goal

abbrev pub invariant-loop-x : goal.invariant-loop-x
invariant-loop-x l =
    let items = program l.declarations in
    let shapes = map seen.shape l.shapes in
    map seen.function l.so_far.items ++ spec.all_functions shapes items (before l.next) (map declared (drop l.x-index l.all)) ≡ spec.all_functions shapes items (before l.fn.first) (map declared l.all)
