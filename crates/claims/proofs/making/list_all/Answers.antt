use Rattle.std.proofs.Common.{◌-◌, length, refl, arith}
use Rattle.object_types.specs.Lookups.{look_up}
use Rattle.claims.proofs.Putting.{list_start, list_next, list_end}
use Rattle.claims.proofs.making.list_all.Goals as goal

pub loop-i-init : goal.loop-i-init
loop-i-init c = record { within = omega arith; so_far = list_start (look_up c.args.h.now) c.args.c c.args.objects.now (length c.args.objects.now) c.requires (omega arith) }

pub loop-i-preserved : goal.loop-i-preserved
loop-i-preserved c = record {
  within = let w = c.loop-i.invariant.within in omega (arith, w);
  so_far = list_next (look_up c.args.h.now) c.args.c (look_up c.loop-i.h) _ c.args.objects.now (c.loop-i.i - 1) c.loop-i.i _ _ (let t = c.loop-i-test.true in omega (arith, t)) c.loop-i.invariant.so_far (let w = c.loop-i.invariant.within in let t = c.loop-i-test.true in omega (arith, w, t)) refl c.in_ok-set_listed.ensures.ok;
}

pub returns : goal.returns
returns c = record { ok = list_end (look_up c.args.h.now) (look_up c.loop-i.h) c.args.c c.args.objects.now c.loop-i.i c.loop-i.invariant.so_far c.loop-i-test.false }
