use Rattle.std.proofs.Common.{◌≡◌, ◌++◌, map, drop}
use Rattle.typed_program.specs.Shapes as spec
use Rattle.typed_program.specs.Views as seen
use Rattle.elab_shapes.specs.Views.{sorts as sorts_seen}
use Rattle.elab_shapes.proofs.collect.add_property.Given as goal

abbrev pub invariant-loop-x : goal.invariant-loop-x
invariant-loop-x l =
    let here = sorts_seen l.sorts in
    map seen.shape l.so_far.items ++ spec.property_shapes here (seen.specs (drop l.x-index l.xs)) ≡ map seen.shape l.fn.so_far.items ++ spec.property_shapes here (seen.specs l.xs)
