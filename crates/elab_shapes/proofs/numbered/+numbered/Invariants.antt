use Rattle.std.proofs.Common.{◌≡◌, ◌+◌, ◌++◌, map, drop}
use Rattle.typed_program.specs.Views as seen
use Rattle.elab_shapes.specs.Parts.{parts}
use Rattle.elab_shapes.specs.Conjuncts.{numbered_part}
use Rattle.elab_shapes.specs.Views.{sorts as sorts_seen}
use Rattle.elab_shapes.proofs.ByParts.{height}
use Rattle.elab_shapes.proofs.numbered.+numbered.Given as goal

abbrev pub decreases-numbered : goal.decreases-numbered
decreases-numbered l = height (seen.spec l.x.now) + height (seen.spec l.x.now)

abbrev pub decreases-numbered_part : goal.decreases-numbered_part
decreases-numbered_part l = height (seen.spec l.x.now) + height (seen.spec l.x.now) + 1

abbrev pub invariant-numbered-loop-i : goal.invariant-numbered-loop-i
invariant-numbered-loop-i l =
    let one = numbered_part (map seen.shape l.shapes) (sorts_seen l.sorts) in
    seen.specs l.parts.items ++ map one (drop l.i (parts (seen.spec l.x))) ≡ map one (parts (seen.spec l.x))
