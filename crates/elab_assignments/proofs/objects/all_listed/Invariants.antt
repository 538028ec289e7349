use Rattle.std.proofs.Common.{◌≡◌, map, take}
use Rattle.c_syntax.specs.Views as view
use Rattle.elab_code.specs.Views.{around as here}
use Rattle.typed_program.specs.Statements as spec
use Rattle.typed_program.specs.Views as seen
use Rattle.elab_assignments.proofs.objects.all_listed.Given as goal

abbrev pub invariant-loop-x : goal.invariant-loop-x
invariant-loop-x l = map seen.listed l.all.items ≡ map (spec.listed (here l.around)) (view.exps (take l.x-index l.xs))
