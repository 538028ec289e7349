-- Items of code where they are made, whatever number their first check has and whatever lists stand beside the heaps. Own.
use Rattle.std.specs.Prelude.{◌≡◌, ℕ, ℤ, List, Result}
use Rattle.std.proofs.Common.{Vec, Global}
use Rattle.object_types.specs.declared.references.Ref.{Ref}
use Rattle.object_types.specs.declared.records.Stored.{Stored}
use Rattle.object_types.specs.declared.values.Value.{Value}
use Rattle.object_types.specs.declared.values.Value.TheVariants.{Int}
use Rattle.object_types.specs.Heap.{Heap, IsFinite}
use Rattle.int_ranges.specs.declared.ctype.CType.{CType}
use Rattle.int_ranges.specs.Ranges.{in_range}
use Rattle.method.specs.declared.program.CheckKind.TheVariants.{Range, Read}
use Rattle.method.specs.declared.program.Program.{Program}
use Rattle.method.specs.Tables.{read}
use Rattle.method.specs.Expressions as m
use Rattle.machine_values.specs.declared.spot.Spot.{Spot}
use Rattle.machine_values.specs.declared.stop.Stop.{Stop}
use Rattle.machine_values.specs.Spots.{heap_at, spot_at}
use Rattle.machine_values.specs.Answers.{Comes}

-- whatever the number is, and the list beside the heap at the function's entry
abbrev pub AtSpot : Spot → (m.Spot → ℕ → Type 0) → Type 0
AtSpot at_ P = (n : ℕ) (x : List Ref) → P (spot_at x at_) n

-- the same, and whatever the list beside the heap, if it names all that stands there
abbrev pub OnHeap : Spot → List Stored → (m.Spot → Heap → ℕ → Type 0) → Type 0
OnHeap at_ stored P = (n : ℕ) (x y : List Ref) → IsFinite (heap_at y stored) → P (spot_at x at_) (heap_at y stored) n

-- the same, of what has no number
abbrev pub OnHeaps : Spot → List Stored → (m.Spot → Heap → Type 0) → Type 0
OnHeaps at_ stored P = (x y : List Ref) → IsFinite (heap_at y stored) → P (spot_at x at_) (heap_at y stored)

-- a number that has to fit its type
abbrev pub ranged : m.Spot → CType → ℤ → ℕ → m.Outcome Value
ranged at_ ty z n = m.check at_ (in_range ty z) n Range (m.Gives (Int z))

-- the value of o->f, which has to be readable
abbrev pub field_read : Program → m.Spot → Heap → Ref → ℕ → ℕ → m.Outcome Value
field_read p at_ h o f n = m.check at_ (m.readable p at_ h o f) n Read (m.Gives (read p h o f))

-- the code's values are those that the item comes to
abbrev pub YieldsAll : Result (Vec Value Global) Stop → m.Outcome (List Value) → Type 0
YieldsAll result o = Comes result (λ vs w. w ≡ m.Gives vs.items) o
