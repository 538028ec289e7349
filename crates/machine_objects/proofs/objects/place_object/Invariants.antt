use Rattle.std.proofs.Common.{◌≡◌, ◌+◌, take}
use Rattle.object_types.specs.Heap.{put_at}
use Rattle.object_types.specs.Lookups.{look_up}
use Rattle.method.specs.Actions.{new_object}
use Rattle.machine_objects.proofs.objects.place_object.Given as goal

abbrev pub invariant-loop-value : goal.invariant-loop-value
invariant-loop-value l = record {
  field_is : l.field ≡ l.first + l.value-index;
  so_far : look_up l.h ≡ put_at (look_up l.fn.h) l.o (new_object l.fn.me l.first (take l.value-index l.contents));
}
