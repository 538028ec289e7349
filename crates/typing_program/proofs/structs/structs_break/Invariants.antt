use Rattle.std.proofs.Common.{◌≡◌, take, map}
use Rattle.c_syntax.specs.Views as view
use Rattle.typing_symbols.specs.Whole.{program}
use Rattle.typing_expressions.specs.Views.{maybe_broken}
use Rattle.typing_program.specs.Violation.{structs_first}
use Rattle.typing_program.proofs.structs.structs_break.Given as goal

abbrev pub invariant-loop-x : goal.invariant-loop-x
invariant-loop-x l = maybe_broken l.so_far ≡ structs_first (program l.declarations) (map (λ s. view.struct s.tree.now) (take l.x-index l.all))
