use Rattle.std.proofs.Common.{◌≡◌, ◌+◌, take, map}
use Rattle.c_syntax.specs.Views as view
use Rattle.typed_program.specs.Statements.{in_invariants}
use Rattle.elab_statements.proofs.counts.behind_invariants.Given as goal

abbrev pub invariant-loop-x : goal.invariant-loop-x
invariant-loop-x l = l.next ≡ l.first + in_invariants (map view.invariant (take l.x-index l.all))
