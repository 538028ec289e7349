use Rattle.std.proofs.Common.{◌≡◌, List, drop}
use Rattle.object_types.specs.declared.references.Ref.{Ref}
use Rattle.object_types.specs.Sets.{every}
use Rattle.machine_values.specs.Spots.{heap_at, spot_at}
use Rattle.machine_ownership.specs.Owned.{is_owned}
use Rattle.machine_ownership.proofs.items.all_owned.Given as goal

abbrev pub invariant-loop-o : goal.invariant-loop-o
invariant-loop-o l = (x y : List Ref) → let owned = is_owned (spot_at x l.at) (heap_at y l.h) in every owned l.objects ≡ every owned (drop l.o-index l.objects)
