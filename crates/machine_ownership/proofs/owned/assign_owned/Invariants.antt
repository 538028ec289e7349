use Rattle.std.proofs.Common.{◌≡◌, take}
use Rattle.object_types.specs.Sets.{set_of}
use Rattle.object_types.specs.Heap.{put_at}
use Rattle.object_types.specs.Lookups.{look_up}
use Rattle.machine_ownership.specs.Owned.{owning}
use Rattle.machine_ownership.proofs.owned.assign_owned.Given as goal

abbrev pub invariant-loop-member : goal.invariant-loop-member
invariant-loop-member l = look_up l.h ≡ put_at (look_up l.fn.h) l.o (owning (look_up l.fn.h l.o) (set_of (take l.member-index l.members)))
