-- Where the code's numbers run out at claims: claim counts have 128 bits. Own.
use Rattle.std.specs.Prelude.{ℕ, pos, negsuc, ◌⊎◌, List, Option, Some, None, slice_get}
use Rattle.object_types.specs.declared.records.Stored.{Stored}
use Rattle.object_types.specs.declared.references.Ref.{Ref}
use Rattle.object_types.specs.Heap.{IsFinite}
use Rattle.method.specs.declared.program.ClaimSite.{ClaimSite}
use Rattle.method.specs.declared.program.Program.{Program}
use Rattle.method.specs.declared.program.RightSide.{RightSide}
use Rattle.method.specs.declared.program.RightSide.TheVariants.{Compute, Malloc, NewClaim, Interlocked}
use Rattle.method.specs.Expressions.{Spot}
use Rattle.method.specs.Actions.{Progress, run_claimed}
use Rattle.claims.specs.Steps.{Overflows}
use Rattle.machine_values.specs.Spots.{heap_at}
use Rattle.machine_objects.specs.RunsOut.{Behind, NoReference, MallocRunsOut}

-- the code's heap has no reference left for a claim of these objects, or one of their counts leaves 128 bits, whatever the list beside its records
abbrev pub LacksClaim : List Stored → List Ref → Type 0
LacksClaim h os = (y : List Ref) → IsFinite (heap_at y h) → NoReference (heap_at y h) 2 ⊎ Overflows (pos 1) os (heap_at y h)

-- the numbers run out where a claim of this site is made: no reference is left for it, or the count of an object that it claims is at its greatest
abbrev pub MakingRunsOut : Program → Spot → Option ClaimSite → ℕ → Progress → Type 0
MakingRunsOut p at_ None n g = ⊥
MakingRunsOut p at_ (Some site) n g = Behind (run_claimed p at_ site.claimed.items n g) (λ os. NoReference g.heap 2 ⊎ Overflows (pos 1) os g.heap)

-- the same where the claim ends: the count of an object that it lists is at its least
abbrev pub EndingRunsOut : Ref → Progress → Type 0
EndingRunsOut c g = Overflows (negsuc 0) (g.heap.get c).listed g.heap

-- the same at a right side
abbrev pub RightRunsOut : Program → Spot → RightSide → ℕ → Progress → Type 0
RightRunsOut p at_ (Compute e) n g = ⊥
RightRunsOut p at_ (Malloc ty) n g = MallocRunsOut p ty at_.choices g
RightRunsOut p at_ (NewClaim k) n g = MakingRunsOut p at_ (slice_get p.sites.items k) n g
RightRunsOut p at_ (Interlocked e f op then') n g = ⊥
