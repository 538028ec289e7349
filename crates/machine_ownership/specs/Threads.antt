-- Threads that are started. Own.
use Rattle.std.specs.Prelude.{◌≡◌, ℕ, ◌<◌, ◌≤◌, List, IsFalse, Result, Ok, Err}
use Rattle.std.proofs.Common.{Vec, Global}
use Rattle.object_types.specs.declared.references.Ref.{Ref}
use Rattle.object_types.specs.declared.records.Stored.{Stored}
use Rattle.object_types.specs.declared.values.Value.{Value}
use Rattle.object_types.specs.References.{thread}
use Rattle.object_types.specs.Heap.{Heap, IsFinite, is_idle, idle_from}
use Rattle.method.specs.declared.program.CheckKind.TheVariants.{Spawn}
use Rattle.method.specs.declared.program.Program.{Program}
use Rattle.method.specs.declared.program.Spec.{Spec}
use Rattle.method.specs.Expressions.{Spot, call_scene, item_tests}
use Rattle.method.specs.Actions.{items_of}
use Rattle.machine_values.specs.declared.stop.Stop.{Stop}
use Rattle.machine_values.specs.Spots.{heap_at}
use Rattle.machine_values.specs.Answers.{Verdict, Passes, Finds, verdict}
use Rattle.machine_objects.specs.Runs.{tries}
use Rattle.machine_ownership.specs.Owned.{is_owned}

-- the least thread from this number on that owns nothing
abbrev pub IsLeastIdle : List Stored → ℕ → Ref → Type 0
IsLeastIdle h from t = (y : List Ref) → IsFinite (heap_at y h) → t ≡ thread (idle_from (tries y) (heap_at y h) from)

-- each thread from this number on owns something, as far as numbers of 32 bits go
abbrev pub NoneIdle : List Stored → ℕ → Type 0
NoneIdle h from = (y : List Ref) → IsFinite (heap_at y h) → (k : ℕ) → from ≤ k → k < 4294967296 → IsFalse (is_idle (heap_at y h) k)

-- all the checks of items pass, and the code has the items; or it stops as the checks do
abbrev pub FindsItems : Result (Vec Ref Global) Stop → Verdict → List Ref → Type 0
FindsItems (Ok items) v os = (v ≡ Passes) × (items.items ≡ os)
FindsItems (Err stop) v os = Finds (Err stop) v

-- the same of the items of a writes list that pass to a new thread: each has to be the thread's own, closed and writable
abbrev pub ArePassing : Result (Vec Ref Global) Stop → Program → Spot → Heap → List Spec → List Value → Type 0
ArePassing result p at_ h es args =
    let s = call_scene at_.context.me h args in
    FindsItems result (verdict at_.line Spawn (item_tests p (is_owned at_ h) es s)) (items_of p es s)
