use Rattle.std.proofs.Common.{List}
use Rattle.object_types.specs.declared.references.Ref.{Ref}
use Rattle.machine_values.specs.Spots.{spot_at}
use Rattle.machine_ownership.proofs.Changing.{Onward}
use Rattle.machine_ownership.proofs.owned.change_members.Given as goal

abbrev pub invariant-loop-v : goal.invariant-loop-v
invariant-loop-v l = (y : List Ref) → Onward l.at.program.now (spot_at y l.at) l.change l.o l.values l.v-index l.fn.progress l.progress
