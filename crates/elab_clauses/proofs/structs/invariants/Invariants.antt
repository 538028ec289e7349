use Rattle.std.proofs.Common.{◌≡◌, map, drop}
use Rattle.c_syntax.specs.Views as view
use Rattle.elab_code.specs.Views.{around}
use Rattle.elab_annotations.specs.Views.{row_of}
use Rattle.typed_program.specs.Tables.{invariants_of}
use Rattle.elab_clauses.specs.Numberings.{numbering}
use Rattle.elab_clauses.specs.Typing.{struct_invariants}
use Rattle.elab_clauses.proofs.Members.{left}
use Rattle.elab_clauses.proofs.structs.invariants.Given as goal

abbrev pub invariant-loop-x : goal.invariant-loop-x
invariant-loop-x l =
    let k = numbering l.numbering in
    let a = around l.around in
    left k a (row_of l.so_far) (map view.member (drop l.x-index l.members)) ≡ struct_invariants k a l.first (invariants_of (map view.member l.members))
