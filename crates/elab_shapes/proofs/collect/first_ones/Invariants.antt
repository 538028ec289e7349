use Rattle.std.proofs.Common.{◌≡◌, [], ◌++◌, map, reverse}
use Rattle.typed_program.specs.Shapes as spec
use Rattle.typed_program.specs.Views as seen
use Rattle.elab_shapes.proofs.collect.first_ones.Given as goal

abbrev pub invariant-loop-one : goal.invariant-loop-one
invariant-loop-one l =
    let found = map seen.shape l.found.items in
    found ++ spec.first_ones (reverse found) (map seen.shape l.one-iterator.rest.items) ≡ spec.first_ones [] (map seen.shape l.fn.all.items)
