use Rattle.std.proofs.Common.{◌≡◌, ◌≤◌, drop, length}
use Rattle.object_types.specs.Sets.{set_of}
use Rattle.object_types.specs.Heap.{put_at}
use Rattle.object_types.specs.Lookups.{look_up}
use Rattle.claims.proofs.Putting.{lists}
use Rattle.claims.proofs.making.list_all.Given as goal

abbrev pub invariant-loop-i : goal.invariant-loop-i
invariant-loop-i l = record {
  within : l.i ≤ length l.objects;
  so_far : look_up l.h ≡ put_at (look_up l.fn.h) l.c (lists (look_up l.fn.h l.c) (set_of (drop l.i l.objects)));
}

abbrev pub decreases-loop-i : goal.decreases-loop-i
decreases-loop-i l = l.i
