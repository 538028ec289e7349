use Rattle.std.proofs.Common.{◌≡◌, map, take}
use Rattle.typed_program.specs.Shapes as spec
use Rattle.elab_shapes.specs.Views.{sorts as sorts_seen}
use Rattle.elab_shapes.proofs.shapes.sorts_of.Given as goal

abbrev pub invariant-loop-hole : goal.invariant-loop-hole
invariant-loop-hole l = l.found.items ≡ map (spec.sort_of (sorts_seen l.sorts)) (take l.hole-index l.holes)
