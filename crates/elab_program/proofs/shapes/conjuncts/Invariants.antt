use Rattle.std.proofs.Common.{◌≡◌, ◌++◌, map, drop}
use Rattle.elab_shapes.specs.Views.{sorts}
use Rattle.typed_program.specs.Shapes.{conjunct}
use Rattle.typed_program.specs.Views as seen
use Rattle.elab_program.proofs.shapes.conjuncts.Given as goal

abbrev pub invariant-loop-x : goal.invariant-loop-x
invariant-loop-x l =
    let f = conjunct (map seen.shape l.shapes) (sorts l.sorts) in
    map seen.conjunct l.so_far.items ++ map f (seen.specs (drop l.x-index l.all)) ≡ map f (seen.specs l.all)
