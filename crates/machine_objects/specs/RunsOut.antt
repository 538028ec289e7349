-- Where the code's numbers run out. The definitions' heaps have room without end; references and numbers of fields have 32 bits in the code. Own.
use Rattle.std.specs.Prelude.{◌≢◌, ℕ, ◌+◌, ◌≤◌, ◌⊎◌, length, List, [], ◌∷◌, IsFalse}
use Rattle.object_types.specs.declared.records.Stored.{Stored}
use Rattle.object_types.specs.declared.references.Ref.{Ref}
use Rattle.object_types.specs.declared.values.Value.{Value}
use Rattle.object_types.specs.References.{ref}
use Rattle.object_types.specs.Heap.{Heap, IsFinite, nothing, is_absent, fresh}
use Rattle.method.specs.declared.program.Program.{Program}
use Rattle.method.specs.Tables.{struct_of}
use Rattle.method.specs.Expressions.{Outcome}
use Rattle.method.specs.Actions.{Progress, first_field}
use Rattle.machine_values.specs.Spots.{heap_at}
use Rattle.machine_objects.specs.Runs.{Ended}

-- an item gives something of which Q holds
abbrev pub Behind : {A : Type 0} → Outcome A → (A → Type 0) → Type 0
Behind o Q = Ended Q o.end

-- No reference of the type is left in the heap: the last serial is used, or something stands at the reference that comes next.
pub data NoReference (h : Heap) (ty : ℕ) : Type 0 where
  last_serial : IsFalse (is_absent (h.get (ref ty 4294967295)).mode) → NoReference h ty
  no_vacancy : h.get (fresh h ty) ≢ nothing → NoReference h ty

-- the same of the code's heap, whatever the list beside its records
abbrev pub LacksReference : List Stored → ℕ → Type 0
LacksReference h ty = (y : List Ref) → IsFinite (heap_at y h) → NoReference (heap_at y h) ty

-- an object with these contents, of which this is the first field's number, has a field whose number is past 32 bits
abbrev pub LacksFields : ℕ → List Value → Type 0
LacksFields first contents = 4294967296 ≤ first + length contents

-- the numbers run out at a malloc of this type with these choices
abbrev pub MallocRunsOut : Program → ℕ → List Value → Progress → Type 0
MallocRunsOut p ty [] g = ⊥
MallocRunsOut p ty (c ∷ contents) g = NoReference g.heap ty ⊎ LacksFields (first_field (struct_of p ty)) contents
