use Rattle.std.proofs.Common.{◌≡◌, take}
use Rattle.object_types.specs.Sets.{set_of}
use Rattle.machine_ownership.proofs.items.set_of.Given as goal

abbrev pub invariant-loop-o : goal.invariant-loop-o
invariant-loop-o l = l.set ≡ set_of (take l.o-index l.objects)
