use Rattle.std.proofs.Common.{◌≡◌, take, map}
use Rattle.c_syntax.specs.Grammar.{ghosts_of}
use Rattle.c_syntax.specs.Views as view
use Rattle.elab_assignments.specs.Views.{before}
use Rattle.typed_program.specs.Statements.{plus, in_ghosts}
use Rattle.elab_statements.proofs.counts.+ghosts.Given as goal

abbrev pub invariant-behind_ghosts-loop-x : goal.invariant-behind_ghosts-loop-x
invariant-behind_ghosts-loop-x l = before l.next ≡ plus (before l.fn.before) (in_ghosts (ghosts_of (map view.ghost (take l.x-index l.all))))
