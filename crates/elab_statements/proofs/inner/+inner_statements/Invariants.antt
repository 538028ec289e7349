use Rattle.std.proofs.Common.{◌≡◌, take, map}
use Rattle.c_syntax.specs.Grammar.{stms_of}
use Rattle.c_syntax.specs.Views as view
use Rattle.typing_symbols.specs.Scopes.{known}
use Rattle.elab_assignments.specs.Views.{before}
use Rattle.typing_statements.specs.Views.{behind_all}
use Rattle.elab_statements.specs.Rows.{inner, typed_inners}
use Rattle.elab_statements.specs.Settings.{setting, at}
use Rattle.elab_statements.proofs.inner.+inner_statements.Given as goal

abbrev pub invariant-inner_statements-loop-x : goal.invariant-inner_statements-loop-x
invariant-inner_statements-loop-x l =
    (inner l.so_far ≡ typed_inners (at (setting l.setting) (known l.fn.variables)) (before l.fn.before) (stms_of (map view.stm (take l.x-index l.all))))
    × (known l.variables ≡ behind_all (map view.stm (take l.x-index l.all)) (known l.fn.variables))
