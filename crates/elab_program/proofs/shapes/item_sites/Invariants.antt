use Rattle.std.proofs.Common.{◌≡◌, ◌++◌, map, drop}
use Rattle.typing_symbols.specs.Whole.{program}
use Rattle.typed_program.specs.Tables as tables
use Rattle.typed_program.specs.Views as seen
use Rattle.elab_program.specs.Views.{declared}
use Rattle.elab_program.proofs.shapes.item_sites.Given as goal

abbrev pub invariant-loop-x : goal.invariant-loop-x
invariant-loop-x l =
    let items = program l.declarations in
    let shapes = map seen.shape l.shapes in
    map seen.site l.so_far.items ++ tables.site_table shapes items l.number (map declared (drop l.x-index l.all)) ≡ tables.site_table shapes items 0 (map declared l.all)
