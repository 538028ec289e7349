use Rattle.std.proofs.Common.{◌≡◌, take, map}
use Rattle.c_syntax.specs.Grammar.{stms_of}
use Rattle.c_syntax.specs.Views as view
use Rattle.elab_assignments.specs.Views.{before}
use Rattle.typed_program.specs.Statements.{plus, in_statements}
use Rattle.elab_statements.proofs.counts.+statements.Given as goal

abbrev pub invariant-behind_statements-loop-x : goal.invariant-behind_statements-loop-x
invariant-behind_statements-loop-x l = before l.next ≡ plus (before l.fn.before) (in_statements (stms_of (map view.stm (take l.x-index l.all))))
