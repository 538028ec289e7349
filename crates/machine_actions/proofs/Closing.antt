-- The objects of a block are closed, as the definitions test it.
use Rattle.std.proofs.Common.{◌≡◌, List, [], ◌∷◌, map, refl, ap}
use Rattle.object_types.specs.declared.references.Ref.{Ref}
use Rattle.object_types.specs.declared.records.Stored.{Stored}
use Rattle.object_types.specs.Lookups.{heap_of}
use Rattle.object_types.specs.Heap.{closed_in}
use Rattle.machine_values.specs.Spots.{heap_at}
use Rattle.machine_values.specs.Answers.{plain}
use Rattle.machine_actions.specs.Inside.{closed_tests}

pub tests_closed : (heap : List Stored) (y os : List Ref) → closed_tests heap os ≡ map plain (map (closed_in (heap_at y heap)) os)
tests_closed heap y [] = refl
tests_closed heap y (o ∷ os) = ap (λ ts. plain (closed_in (heap_of heap) o) ∷ ts) (tests_closed heap y os)
