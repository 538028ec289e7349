use Rattle.std.proofs.Common.{◌≡◌, take, map}
use Rattle.c_syntax.specs.Views as view
use Rattle.typing_program.specs.Names.{held}
use Rattle.typing_program.proofs.program.function_names.Given as goal

abbrev pub invariant-loop-x : goal.invariant-loop-x
invariant-loop-x l = held l.names.items ≡ map (λ f. f.name) (map (λ f. view.function f.now) (take l.x-index l.all))
