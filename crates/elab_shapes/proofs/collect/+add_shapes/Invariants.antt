use Rattle.std.proofs.Common.{◌≡◌, ◌++◌, map, drop}
use Rattle.typed_program.specs.Shapes as spec
use Rattle.typed_program.specs.Views as seen
use Rattle.elab_shapes.specs.Parts.{parts}
use Rattle.elab_shapes.specs.Views.{sorts as sorts_seen}
use Rattle.elab_shapes.proofs.ByParts.{height, gathered, part_shapes}
use Rattle.elab_shapes.proofs.collect.+add_shapes.Given as goal

abbrev pub decreases-add_shapes : goal.decreases-add_shapes
decreases-add_shapes l = height (seen.spec l.x.now)

abbrev pub invariant-loop-i : goal.invariant-loop-i
invariant-loop-i l =
    let here = sorts_seen l.sorts in
    map seen.shape l.so_far.items ++ gathered (part_shapes here) (drop l.i (parts (seen.spec l.x))) ≡ map seen.shape l.fn.so_far.items ++ spec.shapes_in here (seen.spec l.x)
