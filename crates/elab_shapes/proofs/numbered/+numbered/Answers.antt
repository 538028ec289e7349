use Rattle.std.proofs.Common.{map, ap, ◌∙◌, arith}
use Rattle.typed_program.specs.Views.{spec, shape}
use Rattle.elab_shapes.specs.Parts.{parts, with_parts}
use Rattle.elab_shapes.specs.Conjuncts.{numbered_part}
use Rattle.elab_shapes.specs.Views.{part, sorts}
use Rattle.elab_shapes.proofs.Rows.{told}
use Rattle.elab_shapes.proofs.ByParts.{part_lower, numbered_by_parts, all_made}
use Rattle.elab_shapes.proofs.PartCounts.{as_many_made}
use Rattle.elab_shapes.proofs.numbered.+numbered.Goals as goal

pub numbered-numbered_part-requires : goal.numbered-numbered_part-requires
numbered-numbered_part-requires t c = (omega (arith, c.decreases, part_lower (spec c.args.x.now) c.loop-i.i (part c.part_at-one.result) (omega (arith, c.loop-i-test.true, c.count-i-end.ensures)) c.part_at-one.ensures), tt)

pub numbered-with_parts-requires : goal.numbered-with_parts-requires
numbered-with_parts-requires t c =
    let one = numbered_part (map shape c.args.shapes.now) (sorts c.args.sorts.now) in
    let x = spec c.args.x.now in
    as_many_made one (parts x) c.loop-i.parts.items (all_made one (parts x) c.loop-i.i (omega (arith, c.count-i-end.ensures)) c.loop-i.parts.items _ c.loop-i.invariant)

pub numbered-returns : goal.numbered-returns
numbered-returns t c =
    let all = map shape c.args.shapes.now in
    let here = sorts c.args.sorts.now in
    let x = spec c.args.x.now in
    told c.with_parts.result spec _ _ c.with_parts.ensures
    (ap (with_parts x) (all_made (numbered_part all here) (parts x) c.loop-i.i (omega (arith, c.count-i-end.ensures)) c.loop-i.parts.items _ c.loop-i.invariant) ∙ numbered_by_parts all here x)
