use Rattle.std.proofs.Common.{◌≡◌, ◌++◌, map, drop}
use Rattle.c_syntax.specs.Views as view
use Rattle.typing_spec.specs.Declarations.{fields}
use Rattle.typing_symbols.specs.Whole.{program}
use Rattle.typed_program.specs.Tables as tables
use Rattle.typed_program.specs.Views as seen
use Rattle.elab_clauses.proofs.fields.add_fields.Given as goal

abbrev pub invariant-loop-x : goal.invariant-loop-x
invariant-loop-x l =
    let s = view.struct l.owner.tree.now in
    let each = tables.field (program l.declarations) s in
    map seen.field l.so_far.items ++ map each (map (λ f. view.field f.now) (drop l.x-index l.all)) ≡ map seen.field l.fn.so_far.items ++ map each (fields s.members)
