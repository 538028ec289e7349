use Rattle.std.proofs.Common.{◌≡◌, take}
use Rattle.c_syntax.specs.Views as view
use Rattle.elab_code.specs.Views.{around as here}
use Rattle.typed_program.specs.Codes as spec
use Rattle.typed_program.specs.Views as seen
use Rattle.elab_assignments.proofs.values.codes.Given as goal

abbrev pub invariant-loop-x : goal.invariant-loop-x
invariant-loop-x l = seen.codes l.all.items ≡ spec.codes (here l.around) (view.exps (take l.x-index l.xs))
