-- The code's states beside method's, without the lists that a heap of method has beside its records, as their functions are compared (Frames of machine_turns). Own.
use Rattle.std.specs.Prelude.{◌≡◌, [], map}
use Rattle.object_types.specs.Heap as h
use Rattle.method.specs.Machine as m
use Rattle.machine_values.specs.Spots.{heap_at}
use Rattle.machine_turns.specs.Frames.{bare_heap, bare_frame, frames_of}
use Rattle.ref_machine.specs.declared.state.Thread.{Thread}
use Rattle.ref_machine.specs.declared.state.State.{State}

-- states without the lists beside their heaps

abbrev pub bare_thread : m.Thread → m.Thread
bare_thread th = record th { frames = map bare_frame th.frames }

abbrev pub bare : m.State → m.State
bare s = record { heap = bare_heap s.heap; threads = map bare_thread s.threads }

-- the code's states, bare

abbrev pub thread_of : Thread → m.Thread
thread_of th = record { number = th.number; frames = frames_of th.frames.items }

abbrev pub state_of : State → m.State
state_of c = record { heap = heap_at [] c.heap; threads = map thread_of c.threads.items }

-- s is the code's state up to those lists, of which that beside the heap names all that stands in it
pub record Stands (s : m.State) (c : State) : Type 0 where
  pub same : bare s ≡ state_of c
  pub finite : h.IsFinite s.heap

-- the same state: the heap's records, and the threads
pub record Same (c d : State) : Type 0 where
  pub heap : d.heap ≡ c.heap
  pub threads : map thread_of d.threads.items ≡ map thread_of c.threads.items
