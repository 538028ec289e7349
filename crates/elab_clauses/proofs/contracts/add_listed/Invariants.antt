use Rattle.std.proofs.Common.{◌≡◌, ℕ, List, ◌++◌, map, drop}
use Rattle.c_syntax.specs.declared.items.WritesItem.{WritesItem}
use Rattle.c_syntax.specs.Views as view
use Rattle.elab_code.specs.Views.{around}
use Rattle.typed_program.specs.Shapes.{numbered}
use Rattle.typed_program.specs.Tables as tables
use Rattle.typed_program.specs.Views as seen
use Rattle.elab_clauses.specs.Numberings.{numbering}
use Rattle.elab_clauses.proofs.contracts.add_listed.Given as goal

abbrev pub invariant-loop-x : goal.invariant-loop-x
invariant-loop-x l =
    let k = numbering l.numbering in
    let a = around l.around in
    let each = λ (n : ℕ) (xs : List WritesItem). map (numbered k.shapes k.sorts) (tables.listed_items a n (map view.written xs)) in
    seen.specs l.so_far.items ++ each l.next (drop l.x-index l.all) ≡ seen.specs l.fn.so_far.items ++ each l.first l.all
