use Rattle.std.proofs.Common.{◌++◌, map, ap, ◌∙◌, arith, append_assoc}
use Rattle.typed_program.specs.Shapes.{shapes_in}
use Rattle.typed_program.specs.Views.{spec, shape}
use Rattle.elab_shapes.specs.Parts.{parts}
use Rattle.elab_shapes.specs.Conjuncts.{own_shape}
use Rattle.elab_shapes.specs.Views.{part, sorts}
use Rattle.elab_shapes.proofs.ByParts.{part_lower, part_shapes, shapes_by_parts, one_gathered, all_gathered}
use Rattle.elab_shapes.proofs.collect.+add_shapes.Goals as goal

pub add_shapes-requires : goal.add_shapes-requires
add_shapes-requires t c = (omega (arith, c.decreases, part_lower (spec c.args.x.now) c.loop-i.i (part c.part_at-one.result) (omega (arith, c.loop-i-test.true, c.count-i-end.ensures)) c.part_at-one.ensures), tt)

pub loop-i-init : goal.loop-i-init
loop-i-init t c = ap (λ ns. map shape c.args.so_far.now.items ++ ns) (shapes_by_parts (sorts c.args.sorts.now) (spec c.args.x.now))

pub loop-i-preserved : goal.loop-i-preserved
loop-i-preserved t c =
    let here = sorts c.args.sorts.now in
    let y = part c.part_at-one.result in
    let old = map shape c.loop-i.so_far.items in
    one_gathered (part_shapes here) (parts (spec c.args.x.now)) c.loop-i.i y (omega (arith, c.loop-i-test.true, c.count-i-end.ensures)) c.part_at-one.ensures old (map shape c.add_shapes.new.so_far.items) _
    (c.in_ok-add_shapes.ensures ∙ (ap (λ ns. ns ++ shapes_in here y.spec) c.in_ok-add_own_shape.ensures ∙ append_assoc old (own_shape here y) (shapes_in here y.spec))) c.loop-i.invariant

pub returns : goal.returns
returns t c = all_gathered (part_shapes (sorts c.args.sorts.now)) (parts (spec c.args.x.now)) c.loop-i.i (omega (arith, c.count-i-end.ensures)) (map shape c.loop-i.so_far.items) _ c.loop-i.invariant
