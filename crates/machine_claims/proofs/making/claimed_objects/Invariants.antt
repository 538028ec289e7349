use Rattle.std.proofs.Common.{ℕ, List}
use Rattle.object_types.specs.declared.references.Ref.{Ref}
use Rattle.object_types.specs.Heap.{IsFinite}
use Rattle.machine_values.specs.Spots.{heap_at, spot_at}
use Rattle.machine_objects.specs.Runs.{Extra, progress_at}
use Rattle.machine_claims.proofs.Listing.{Far}
use Rattle.machine_claims.proofs.making.claimed_objects.Given as goal

abbrev pub invariant-loop-one : goal.invariant-loop-one
invariant-loop-one l = (n : ℕ) (y : List Ref) (e : Extra) → IsFinite (heap_at e.support l.progress.heap) → Far l.at.program.now (spot_at y l.at) (progress_at e l.progress) l.claimed n l.objects.items l.one-index
