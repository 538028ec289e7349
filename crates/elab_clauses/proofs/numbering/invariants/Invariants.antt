use Rattle.std.proofs.Common.{◌≡◌, take, map}
use Rattle.c_syntax.specs.Views as view
use Rattle.elab_code.specs.Views.{around}
use Rattle.elab_annotations.specs.Views.{row_of}
use Rattle.elab_clauses.specs.Numberings.{numbering, said_invariants}
use Rattle.elab_clauses.proofs.numbering.invariants.Given as goal

abbrev pub invariant-loop-x : goal.invariant-loop-x
invariant-loop-x l = row_of l.so_far ≡ said_invariants (numbering l.numbering) (around l.around) l.first (map view.invariant (take l.x-index l.all))
