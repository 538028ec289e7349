use Rattle.std.proofs.Common.{◌≡◌, ℕ, List, take}
use Rattle.typing_symbols.specs.Names.{has}
use Rattle.typing_expressions.specs.Views.{maybe_broken}
use Rattle.typing_program.specs.Violation.{twice}
use Rattle.typing_program.specs.Names.{held}
use Rattle.typing_program.proofs.Repeated.{stands}
use Rattle.typing_program.proofs.names.first_repeated.Given as goal

abbrev pub invariant-loop-name : goal.invariant-loop-name
invariant-loop-name l =
    (maybe_broken l.so_far ≡ twice (held (take l.name-index l.names)))
    × ((y : List ℕ) → has l.name_set y ≡ stands y (held (take l.name-index l.names)))
