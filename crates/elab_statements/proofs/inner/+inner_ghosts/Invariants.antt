use Rattle.std.proofs.Common.{◌≡◌, take, map}
use Rattle.c_syntax.specs.Grammar.{ghosts_of}
use Rattle.c_syntax.specs.Views as view
use Rattle.typing_symbols.specs.Scopes.{known}
use Rattle.elab_assignments.specs.Views.{before}
use Rattle.typing_statements.specs.Views.{behind_ghosts}
use Rattle.elab_statements.specs.Rows.{inner, typed_inner_ghosts}
use Rattle.elab_statements.specs.Settings.{setting, at}
use Rattle.elab_statements.proofs.inner.+inner_ghosts.Given as goal

abbrev pub invariant-inner_ghosts-loop-x : goal.invariant-inner_ghosts-loop-x
invariant-inner_ghosts-loop-x l =
    (inner l.so_far ≡ typed_inner_ghosts (at (setting l.setting) (known l.fn.variables)) (before l.fn.before) (ghosts_of (map view.ghost (take l.x-index l.all))))
    × (known l.variables ≡ behind_ghosts (map view.ghost (take l.x-index l.all)) (known l.fn.variables))
