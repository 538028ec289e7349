use Rattle.std.proofs.Common.{◌≡◌, ◌++◌, map, drop}
use Rattle.c_syntax.specs.Views as view
use Rattle.elab_code.specs.Views.{around}
use Rattle.typed_program.specs.Annotations.{mine}
use Rattle.typed_program.specs.Shapes.{numbered}
use Rattle.typed_program.specs.Tables.{invariants_of, each_invariant}
use Rattle.typed_program.specs.Views as seen
use Rattle.elab_clauses.specs.Numberings.{numbering}
use Rattle.elab_clauses.proofs.structs.members_of_this.Given as goal

abbrev pub invariant-loop-x : goal.invariant-loop-x
invariant-loop-x l =
    let k = numbering l.numbering in
    let a = around l.around in
    seen.specs l.so_far.items ++ map (numbered k.shapes k.sorts) (each_invariant (mine a) l.next (invariants_of (map view.member (drop l.x-index l.members)))) ≡ map (numbered k.shapes k.sorts) (each_invariant (mine a) l.first (invariants_of (map view.member l.members)))
