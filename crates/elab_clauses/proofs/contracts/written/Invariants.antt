use Rattle.std.proofs.Common.{◌≡◌, ℕ, List, ◌++◌, map, drop}
use Rattle.c_syntax.specs.declared.items.Clause.{Clause}
use Rattle.c_syntax.specs.Views as view
use Rattle.elab_code.specs.Views.{around}
use Rattle.typed_program.specs.Shapes.{numbered}
use Rattle.typed_program.specs.Tables as tables
use Rattle.typed_program.specs.Views as seen
use Rattle.elab_clauses.specs.Numberings.{numbering}
use Rattle.elab_clauses.proofs.contracts.written.Given as goal

abbrev pub invariant-loop-x : goal.invariant-loop-x
invariant-loop-x l =
    let k = numbering l.numbering in
    let a = around l.around in
    let each = λ (n : ℕ) (xs : List Clause). map (numbered k.shapes k.sorts) (tables.each_clause (tables.written a) n (map view.clause xs)) in
    seen.specs l.so_far.items ++ each l.next (drop l.x-index l.all) ≡ each l.first l.all
