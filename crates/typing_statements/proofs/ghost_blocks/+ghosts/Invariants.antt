use Rattle.std.proofs.Common.{◌≡◌, take, map}
use Rattle.c_syntax.specs.Grammar.{ghosts_of}
use Rattle.c_syntax.specs.Views as view
use Rattle.typing_spec.specs.Pieces.{in_ghosts}
use Rattle.typing_symbols.specs.Scopes.{known}
use Rattle.typing_expressions.specs.Violations.{violations}
use Rattle.typing_expressions.specs.Views.{findings}
use Rattle.typing_statements.specs.Views.{fixed, within, behind_ghosts}
use Rattle.typing_statements.proofs.ghost_blocks.+ghosts.Given as goal

abbrev pub invariant-ghost_statements-loop-x : goal.invariant-ghost_statements-loop-x
invariant-ghost_statements-loop-x l =
    (findings l.so_far ≡ violations (in_ghosts (within (fixed l.around) (known l.fn.variables)) (ghosts_of (map view.ghost (take l.x-index l.all)))))
    × (known l.variables ≡ behind_ghosts (map view.ghost (take l.x-index l.all)) (known l.fn.variables))
