-- Where checks are made, as the code has it. A heap of the definitions has a list beside its records, which the code's heap doesn't keep as they do; so each view takes that list. Own.
use Rattle.std.specs.Prelude.{List}
use Rattle.object_types.specs.declared.references.Ref.{Ref}
use Rattle.object_types.specs.declared.records.Stored.{Stored}
use Rattle.object_types.specs.Heap.{Heap}
use Rattle.object_types.specs.Lookups.{look_up}
use Rattle.method.specs.Expressions as m
use Rattle.machine_values.specs.declared.spot.Context.{Context}
use Rattle.machine_values.specs.declared.spot.Spot.{Spot}

-- the records of the code's heap, with this list beside them
abbrev pub heap_at : List Ref → List Stored → Heap
heap_at x stored = record { get = look_up stored; support = x }

abbrev pub context_at : List Ref → Context → m.Context
context_at x c = record { function = c.function; me = c.me; entry = heap_at x c.entry; writes = c.writes.items; args = c.args.items }

abbrev pub spot_at : List Ref → Spot → m.Spot
spot_at x s = record { choices = s.choices.now; context = context_at x s.context.now; line = s.line; inside = s.inside; listed = s.listed.now }
