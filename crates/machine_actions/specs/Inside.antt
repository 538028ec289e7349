-- What stands inside an atomic block. Own.
use Rattle.std.specs.Prelude.{◌≡◌, ℕ, List, map}
use Rattle.object_types.specs.declared.references.Ref.{Ref}
use Rattle.object_types.specs.declared.records.Stored.{Stored}
use Rattle.object_types.specs.Lookups.{heap_of}
use Rattle.object_types.specs.Heap.{closed_in}
use Rattle.method.specs.Expressions.{Tested}
use Rattle.method.specs.Actions.{inner_spot}
use Rattle.machine_values.specs.declared.spot.Spot.{Spot}
use Rattle.machine_values.specs.Spots.{context_at, spot_at}
use Rattle.machine_values.specs.Answers.{plain}

-- s is the place of a statement of this line inside the block of a place
abbrev pub IsInside : Spot → ℕ → Spot → Type 0
IsInside at_ line s = (x : List Ref) → spot_at x s ≡ inner_spot at_.program.now (context_at x at_.context.now) at_.listed.now line

-- whether each of these objects is closed
abbrev pub closed_tests : List Stored → List Ref → List Tested
closed_tests heap os = map (λ o. plain (closed_in (heap_of heap) o)) os
