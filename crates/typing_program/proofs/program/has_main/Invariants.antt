use Rattle.std.proofs.Common.{◌≡◌, drop, map}
use Rattle.std.specs.List.{list_any}
use Rattle.c_syntax.specs.Views as view
use Rattle.typing_program.specs.Violation.{is_main}
use Rattle.typing_program.proofs.program.has_main.Given as goal

abbrev pub invariant-loop-x : goal.invariant-loop-x
invariant-loop-x l = list_any is_main (map (λ f. view.function f.now) l.all) ≡ list_any is_main (map (λ f. view.function f.now) (drop l.x-index l.all))
