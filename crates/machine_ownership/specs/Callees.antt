-- The code's context of a function that is called or started. Own.
use Rattle.std.specs.Prelude.{◌≡◌, ℕ, List, Result}
use Rattle.object_types.specs.declared.references.Ref.{Ref}
use Rattle.object_types.specs.declared.records.Stored.{Stored}
use Rattle.object_types.specs.declared.values.Value.{Value}
use Rattle.object_types.specs.Heap.{Heap}
use Rattle.method.specs.declared.program.FunctionInfo.{FunctionInfo}
use Rattle.method.specs.declared.program.Program.{Program}
use Rattle.method.specs.Expressions.{Context as AContext, Outcome, Gives, weighed, call_scene}
use Rattle.method.specs.Actions.{items_overflow, callee}
use Rattle.machine_values.specs.declared.spot.Context.{Context}
use Rattle.machine_values.specs.declared.stop.Stop.{Stop}
use Rattle.machine_values.specs.Spots.{heap_at, context_at}
use Rattle.machine_values.specs.Answers.{Comes}

-- the context is this one, with this list beside its heap
abbrev pub IsCallee : List Ref → Result Context Stop → Outcome AContext → Type 0
IsCallee x result o = Comes result (λ c r. r ≡ Gives (context_at x c)) o

-- the context of a function that is entered, and the first overflow of its writes list
abbrev pub entered : Program → ℕ → FunctionInfo → Ref → Heap → List Value → Outcome AContext
entered p k f me h args = weighed (items_overflow p f.writes.items (call_scene me h args)) (Gives (callee p k f me h args))

-- the same, whatever list stands beside the records of this heap
abbrev pub IsEntered : Result Context Stop → Program → ℕ → FunctionInfo → Ref → List Stored → List Value → Type 0
IsEntered result p k f me h args = (x : List Ref) → IsCallee x result (entered p k f me (heap_at x h) args)
