use Rattle.std.proofs.Common.{◌≡◌, ◌++◌, drop}
use Rattle.typed_program.specs.Shapes as spec
use Rattle.typed_program.specs.Views as seen
use Rattle.elab_shapes.specs.Parts.{parts}
use Rattle.elab_shapes.proofs.ByParts.{height, gathered, part_holes}
use Rattle.elab_shapes.proofs.holes.+holes.Given as goal

abbrev pub decreases-add_holes : goal.decreases-add_holes
decreases-add_holes l = height (seen.spec l.x.now)

abbrev pub invariant-loop-i : goal.invariant-loop-i
invariant-loop-i l = l.so_far.items ++ gathered part_holes (drop l.i (parts (seen.spec l.x))) ≡ l.fn.so_far.items ++ spec.holes (seen.spec l.x)
