use Rattle.std.proofs.Common.{◌≡◌, take, map}
use Rattle.c_syntax.specs.Views.{exps}
use Rattle.elab_code.specs.Views.{around as here}
use Rattle.typed_program.specs.Sites as spec
use Rattle.typed_program.specs.Views.{claimed}
use Rattle.elab_sites.proofs.sites.all_claimed.Given as goal

abbrev pub invariant-loop-x : goal.invariant-loop-x
invariant-loop-x l = map claimed l.all.items ≡ map (spec.claimed (here l.around)) (exps (take l.x-index l.objects))
