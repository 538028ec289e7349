use Rattle.std.proofs.Common.{◌≡◌, drop}
use Rattle.typed_program.specs.Shapes as spec
use Rattle.typed_program.specs.Views as seen
use Rattle.elab_shapes.specs.Parts.{parts}
use Rattle.elab_shapes.proofs.ByParts.{height}
use Rattle.elab_shapes.proofs.Alike.{alike}
use Rattle.elab_shapes.proofs.same.+same.Given as goal

abbrev pub decreases-same : goal.decreases-same
decreases-same l = height (seen.spec l.x.now)

abbrev pub invariant-loop-i : goal.invariant-loop-i
invariant-loop-i l = alike (drop l.i (parts (seen.spec l.x))) (drop l.i (parts (seen.spec l.y))) ≡ spec.same (seen.spec l.x) (seen.spec l.y)
