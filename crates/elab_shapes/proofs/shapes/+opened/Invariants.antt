use Rattle.std.proofs.Common.{◌≡◌, ◌+◌, ◌++◌, length, drop}
use Rattle.typed_program.specs.Views as seen
use Rattle.elab_shapes.specs.Parts.{parts}
use Rattle.elab_shapes.proofs.ByParts.{height, opened_parts, gathered, part_holes}
use Rattle.elab_shapes.proofs.shapes.+opened.Given as goal

abbrev pub decreases-opened : goal.decreases-opened
decreases-opened l = height (seen.spec l.x.now)

abbrev pub invariant-loop-i : goal.invariant-loop-i
invariant-loop-i l =
    let all = parts (seen.spec l.x) in
    record {
      parts : seen.specs l.parts.items ++ opened_parts l.following (drop l.i all) ≡ opened_parts l.next all;
      next : l.following + length (gathered part_holes (drop l.i all)) ≡ l.next + length (gathered part_holes all);
    }
