use Rattle.std.proofs.Common.{arith}
use Rattle.object_types.specs.Lookups.{look_up}
use Rattle.machine_objects.proofs.Contents.{contents_start, contents_next, contents_end}
use Rattle.machine_objects.proofs.objects.place_object.Goals as goal

pub loop-value-init : goal.loop-value-init
loop-value-init c = record { field_is = omega arith; so_far = contents_start (look_up c.args.h.now) (look_up c.set_status.new.self) c.args.o c.args.me c.args.first c.args.contents.now c.requires c.in_ok-set_status.ensures.ok }

pub loop-value-preserved : goal.loop-value-preserved
loop-value-preserved c = record {
  field_is = let e = c.in-Some.ensures.1 in let f = c.loop-value.invariant.field_is in omega (arith, e, f);
  so_far = contents_next (look_up c.args.h.now) (look_up c.loop-value.h) _ c.args.o c.args.me c.args.first c.loop-value.field c.loop-value.value-index c.args.contents.now _ c.loop-value.invariant.field_is c.loop-value.invariant.so_far c.loop-value-test.true c.in_ok-write.ensures.ok;
}

pub returns : goal.returns
returns c = record { ok = contents_end (look_up c.args.h.now) (look_up c.loop-value.h) c.args.o c.args.me c.args.first c.loop-value.value-index c.args.contents.now c.loop-value.invariant.so_far c.loop-value-test.false; err = tt }
