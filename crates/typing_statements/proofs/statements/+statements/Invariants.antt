use Rattle.std.proofs.Common.{◌≡◌, take, map}
use Rattle.c_syntax.specs.Grammar.{stms_of}
use Rattle.c_syntax.specs.Views as view
use Rattle.typing_spec.specs.Pieces.{in_statements}
use Rattle.typing_symbols.specs.Scopes.{known}
use Rattle.typing_expressions.specs.Violations.{violations}
use Rattle.typing_expressions.specs.Views.{findings}
use Rattle.typing_statements.specs.Views.{fixed, within, behind_all}
use Rattle.typing_statements.proofs.statements.+statements.Given as goal

abbrev pub invariant-statements-loop-x : goal.invariant-statements-loop-x
invariant-statements-loop-x l =
    (findings l.so_far ≡ violations (in_statements (within (fixed l.around) (known l.fn.variables)) (stms_of (map view.stm (take l.x-index l.all)))))
    × (known l.variables ≡ behind_all (map view.stm (take l.x-index l.all)) (known l.fn.variables))
