use Rattle.std.proofs.Common.{◌≡◌, ◌++◌, drop, length, map}
use Rattle.c_syntax.specs.Views as view
use Rattle.elab_code.specs.Views.{around as here}
use Rattle.typed_program.specs.Statements as spec
use Rattle.typed_program.specs.Views as seen
use Rattle.elab_assignments.proofs.calls.pass.Given as goal

abbrev pub invariant-loop-parameter : goal.invariant-loop-parameter
invariant-loop-parameter l =
    let n = length l.yielded in
    seen.codes l.all.items ++ spec.passed (here l.around) (map view.parameter (drop n l.parameters)) (view.exps (drop n l.arguments))
    ≡ seen.codes l.fn.all.items ++ spec.passed (here l.around) (map view.parameter l.parameters) (view.exps l.arguments)
