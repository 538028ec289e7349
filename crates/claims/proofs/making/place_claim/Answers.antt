use Rattle.object_types.specs.Lookups.{look_up}
use Rattle.claims.proofs.Putting.{none_listed, none_shaped, placed}
use Rattle.claims.proofs.making.place_claim.Goals as goal

pub list_all-requires : goal.list_all-requires
list_all-requires c = none_listed (look_up c.args.h.now) (look_up c.set_status.new.self) c.args.c c.args.t c.requires c.in_ok-set_status.ensures.ok

pub shape_all-requires : goal.shape_all-requires
shape_all-requires c = none_shaped (look_up c.args.h.now) (look_up c.set_status.new.self) (look_up c.list_all.new.h) c.args.c c.args.t c.args.objects.now c.requires c.in_ok-set_status.ensures.ok c.in_ok-list_all.ensures.ok

pub returns : goal.returns
returns c = record {
  ok = placed (look_up c.args.h.now) (look_up c.set_status.new.self) (look_up c.list_all.new.h) (look_up c.shape_all.new.h) c.args.c c.args.t c.args.objects.now c.args.parts.now c.requires c.in_ok-set_status.ensures.ok c.in_ok-list_all.ensures.ok c.in_ok-shape_all.ensures.ok;
}
