use Rattle.std.proofs.Common.{◌≡◌, ℕ, List, ◌++◌, map, drop}
use Rattle.c_syntax.specs.declared.items.WritesItem.{WritesItem}
use Rattle.c_syntax.specs.Views as view
use Rattle.elab_code.specs.Views.{around}
use Rattle.typed_program.specs.Tables as tables
use Rattle.typed_program.specs.Views as seen
use Rattle.elab_clauses.specs.Numberings.{numbering}
use Rattle.elab_clauses.proofs.contracts.add_mutable.Given as goal

abbrev pub invariant-loop-x : goal.invariant-loop-x
invariant-loop-x l =
    let k = numbering l.numbering in
    let a = around l.around in
    let each = λ (n : ℕ) (xs : List WritesItem). map (tables.numbered_clause k.shapes k.sorts) (map (tables.clause l.span) (tables.mutable_items a n (map view.written xs))) in
    map seen.clause l.so_far.items ++ each l.next (drop l.x-index l.all) ≡ map seen.clause l.fn.so_far.items ++ each l.first l.all
