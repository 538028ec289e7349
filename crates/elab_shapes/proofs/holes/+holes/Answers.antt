use Rattle.std.proofs.Common.{arith}
use Rattle.typed_program.specs.Views.{spec}
use Rattle.elab_shapes.specs.Parts.{parts}
use Rattle.elab_shapes.specs.Views.{part}
use Rattle.elab_shapes.proofs.ByParts.{part_lower, part_holes, holes_by_parts, start_gathered, one_gathered, all_gathered}
use Rattle.elab_shapes.proofs.holes.+holes.Goals as goal

pub add_holes-requires : goal.add_holes-requires
add_holes-requires t c = (omega (arith, c.decreases, part_lower (spec c.args.x.now) c.loop-i.i (part c.part_at-one.result) (omega (arith, c.loop-i-test.true, c.count-i-end.ensures)) c.part_at-one.ensures), tt)

pub loop-i-init : goal.loop-i-init
loop-i-init t c = let x = spec c.args.x.now in start_gathered part_holes (parts x) c.args.so_far.now.items _ c.add_own.new.so_far.items _ c.in_ok-add_own.ensures (holes_by_parts x)

pub loop-i-preserved : goal.loop-i-preserved
loop-i-preserved t c =
    one_gathered part_holes (parts (spec c.args.x.now)) c.loop-i.i (part c.part_at-one.result) (omega (arith, c.loop-i-test.true, c.count-i-end.ensures)) c.part_at-one.ensures c.loop-i.so_far.items c.add_holes.new.so_far.items _
    c.in_ok-add_holes.ensures c.loop-i.invariant

pub returns : goal.returns
returns t c = all_gathered part_holes (parts (spec c.args.x.now)) c.loop-i.i (omega (arith, c.count-i-end.ensures)) c.loop-i.so_far.items _ c.loop-i.invariant
