-- Programs that meet the premises of the law, and so are safe in fine steps. Own.
use Rattle.std.specs.Prelude.{[]}
use Rattle.object_types.specs.Heap.{empty_heap}
use Rattle.method.specs.Machine.{State}
use Rattle.method.specs.Trace.{Memory, state_of}
use Rattle.safe_counter.specs.Shared.{program}
use Rattle.safe_counter.specs.SafeByLabels.{IsSafeByLabels}
use Rattle.grain_law.specs.FineSteps.{SafeInFineSteps}
use Rattle.grain_law.specs.Rows.{main_equality, equality}

-- two threads that write one object (safe_counter); they read it in atomic blocks alone
abbrev pub SharedIsSafeInFineSteps : Type 0
SharedIsSafeInFineSteps = (m : Memory) → SafeInFineSteps (program m)

abbrev pub equality_start : Memory → State
equality_start m = state_of (equality m) (main_equality m) 0 empty_heap []

-- A comparison of two fields of an object, each read by itself: the program is well typed, its labels hold, it is safe and has a start on a good heap; and it is safe in fine steps.
abbrev pub EqualityIsSafeInFineSteps : Type 0
EqualityIsSafeInFineSteps = (m : Memory) → IsSafeByLabels (equality m) (equality_start m) × SafeInFineSteps (equality m)
