use Rattle.std.proofs.Common.{◌≡◌, ◌++◌, map, drop}
use Rattle.std.specs.Prelude.{flat_map}
use Rattle.c_syntax.specs.Views as view
use Rattle.typing_spec.specs.Declarations.{fields}
use Rattle.typing_symbols.specs.Whole.{program}
use Rattle.typed_program.specs.Tables as tables
use Rattle.typed_program.specs.Views as seen
use Rattle.elab_clauses.proofs.fields.field_table.Given as goal

abbrev pub invariant-loop-entry : goal.invariant-loop-entry
invariant-loop-entry l =
    let items = program l.declarations in
    map seen.field l.so_far.items ++ flat_map (λ s. map (tables.field items s) (fields s.members)) (map (λ e. view.struct e.tree.now) (drop l.entry-index l.all)) ≡ tables.field_table items
