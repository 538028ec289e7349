use Rattle.std.proofs.Common.{◌≡◌, length}
use Rattle.object_types.specs.Heap.{put_at}
use Rattle.object_types.specs.Lookups.{look_up}
use Rattle.machine_ownership.specs.Owned.{owning}
use Rattle.machine_ownership.proofs.owned.clear_owned.Given as goal

abbrev pub invariant-loop-member : goal.invariant-loop-member
invariant-loop-member l = look_up l.h ≡ put_at (look_up l.fn.h) l.o (owning (look_up l.fn.h l.o) (look_up l.h l.o).owned)

abbrev pub decreases-loop-member : goal.decreases-loop-member
decreases-loop-member l = length (look_up l.h l.o).owned
