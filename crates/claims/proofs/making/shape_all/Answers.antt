use Rattle.std.proofs.Common.{◌-◌, length, true, ap, ◌∙◌, arith}
use Rattle.object_types.specs.Heap.{put_at, with_shape}
use Rattle.object_types.specs.Lookups.{look_up}
use Rattle.claims.proofs.Putting.{shape_start, shape_next, shape_end}
use Rattle.claims.proofs.making.shape_all.Goals as goal

pub loop-i-init : goal.loop-i-init
loop-i-init c = record { within = omega arith; so_far = shape_start (look_up c.args.h.now) c.args.c c.args.parts.now (length c.args.parts.now) c.requires (omega arith) }

pub loop-i-preserved : goal.loop-i-preserved
loop-i-preserved c = record {
  within = let w = c.loop-i.invariant.within in omega (arith, w);
  so_far = shape_next (look_up c.args.h.now) c.args.c (look_up c.loop-i.h) _ c.args.parts.now (c.loop-i.i - 1) c.loop-i.i _ c.index-parts-i.result (let t = c.loop-i-test.true in omega (arith, t)) c.loop-i.invariant.so_far (let w = c.loop-i.invariant.within in let t = c.loop-i-test.true in omega (arith, w, t)) c.index-parts-i.is
      (c.in_ok-set_shape.ensures.ok ∙ ap (λ vs. put_at (look_up c.loop-i.h) c.args.c (with_shape (record { shape = c.index-parts-i.result.shape; values = vs }) true (look_up c.loop-i.h c.args.c))) c.as_slice.ensures);
}

pub returns : goal.returns
returns c = record { ok = shape_end (look_up c.args.h.now) (look_up c.loop-i.h) c.args.c c.args.parts.now c.loop-i.i c.loop-i.invariant.so_far c.loop-i-test.false }
