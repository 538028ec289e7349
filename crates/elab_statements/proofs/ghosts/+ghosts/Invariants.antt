use Rattle.std.proofs.Common.{◌≡◌, take, map}
use Rattle.c_syntax.specs.Grammar.{ghosts_of}
use Rattle.c_syntax.specs.Views as view
use Rattle.typing_symbols.specs.Scopes.{known}
use Rattle.elab_assignments.specs.Views.{before}
use Rattle.typing_statements.specs.Views.{behind_ghosts}
use Rattle.elab_statements.specs.Rows.{row, typed_ghosts}
use Rattle.elab_statements.specs.Settings.{setting, at}
use Rattle.elab_statements.proofs.ghosts.+ghosts.Given as goal

abbrev pub invariant-ghost_statements-loop-x : goal.invariant-ghost_statements-loop-x
invariant-ghost_statements-loop-x l =
    (row l.so_far ≡ typed_ghosts (at (setting l.setting) (known l.fn.variables)) (before l.fn.before) (ghosts_of (map view.ghost (take l.x-index l.all))))
    × (known l.variables ≡ behind_ghosts (map view.ghost (take l.x-index l.all)) (known l.fn.variables))
