use Rattle.std.proofs.Common.{◌≡◌, take, map}
use Rattle.c_syntax.specs.Grammar.{stms_of}
use Rattle.c_syntax.specs.Views as view
use Rattle.typing_symbols.specs.Scopes.{known}
use Rattle.elab_assignments.specs.Views.{before}
use Rattle.typing_statements.specs.Views.{behind_all}
use Rattle.elab_clauses.specs.Numberings.{numbering}
use Rattle.elab_statements.specs.Shaped.{typed_statements}
use Rattle.elab_statements.specs.Rows.{row}
use Rattle.elab_statements.specs.Settings.{setting, at}
use Rattle.elab_statements.proofs.statements.+statements.Given as goal

abbrev pub invariant-statements-loop-x : goal.invariant-statements-loop-x
invariant-statements-loop-x l =
    (row l.so_far ≡ typed_statements (numbering l.numbering) (at (setting l.setting) (known l.fn.variables)) (before l.fn.before) (stms_of (map view.stm (take l.x-index l.all))))
    × (known l.variables ≡ behind_all (map view.stm (take l.x-index l.all)) (known l.fn.variables))
