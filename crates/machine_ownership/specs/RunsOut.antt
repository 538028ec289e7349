-- Where the code's numbers run out as a thread is started: threads' numbers have 32 bits. Own.
use Rattle.std.specs.Prelude.{ℕ, ◌<◌, ◌≤◌, IsFalse}
use Rattle.object_types.specs.Heap.{Heap, is_idle}
use Rattle.method.specs.Actions.{Supply, Fresh, Chosen, Picked}

-- each number from the supply's on, as far as 32 bits go, is that of a thread that owns something
abbrev pub NoThread : Supply → Heap → Type 0
NoThread (Fresh n) h = (k : ℕ) → n ≤ k → k < 4294967296 → IsFalse (is_idle h k)
NoThread (Chosen rs) h = ⊥
NoThread (Picked n rs) h = ⊥
