-- What a step changes, worked out and then made. Own.
use Rattle.std.specs.Prelude.{◌≡◌, ℕ, List, [], ◌∷◌, ◌++◌, map, slice_get, slice_set, Option, None, Some, Result, Ok, Err}
use Rattle.object_types.specs.declared.records.Stored.{Stored}
use Rattle.object_types.specs.declared.values.Value.{Value}
use Rattle.method.specs.declared.program.Program.{Program}
use Rattle.method.specs.Expressions.{Outcome}
use Rattle.method.specs.Actions.{Fresh}
use Rattle.method.specs.Machine as m
use Rattle.machine_values.specs.declared.spot.Context.{Context}
use Rattle.machine_values.specs.declared.stop.Stop.{Stop}
use Rattle.machine_values.specs.declared.stop.Stop.TheVariants.{Misfit, Fault, Wide, Exhausted, OutOfMemory}
use Rattle.machine_values.specs.Answers.{ComesOr}
use Rattle.machine_values.specs.Spots.{context_at}
use Rattle.machine_objects.specs.Runs.{Lands}
use Rattle.machine_turns.specs.Frames.{bare_frame}
use Rattle.machine_turns.specs.Turns.{AreFrames, IsHeap}
use Rattle.ref_machine.specs.declared.state.Thread.{Thread}
use Rattle.ref_machine.specs.declared.state.State.{State}
use Rattle.ref_machine.specs.declared.step.Plan.{Plan}
use Rattle.ref_machine.specs.declared.step.Stepped.TheVariants as stepped
use Rattle.ref_machine.specs.States.{bare_thread, thread_of}
use Rattle.ref_machine.specs.Settling.{Changed, Settled}
use Rattle.ref_machine.specs.Answers.{Steps}
use Rattle.ref_machine.specs.RunsOut.{StepRunsOut}

-- these are the code's threads, up to the lists beside the heaps at their functions' entries
abbrev pub AreThreads : List m.Thread → List Thread → Type 0
AreThreads ths cs = map bare_thread ths ≡ map thread_of cs

-- the thread that begins with this context, bare
abbrev pub new_thread : Program → Context → m.Thread
new_thread p x = record { number = x.me.serial; frames = bare_frame (m.begin p (context_at [] x)) ∷ [] }

-- what method makes of the turn of the thread with this number
abbrev pub turn_in : Program → m.State → ℕ → List Value → Outcome m.Turn
turn_in p s t choices = m.thread_turn p (Fresh (m.next_number s.threads)) choices (m.frames_of t s.threads) s.heap

-- the plan is method's turn
pub record Planned (plan : Plan) (p : Program) (s : m.State) (t : ℕ) (c : State) (g : m.Turn) : Type 0 where
  pub heap : IsHeap plan.heap s.heap g.heap
  pub old : Thread
  pub is : slice_get c.threads.items plan.place ≡ Some old
  pub are : AreFrames (m.frames_of t s.threads) old.frames.items
  pub frames : Changed plan.frames (m.frames_of t s.threads) g.frames
  pub put : (d : Thread) → d.number ≡ old.number → (fs : List m.Activation) → AreFrames fs d.frames.items → AreThreads (m.with_frames t fs s.threads) (slice_set c.threads.items plan.place d)
  pub new : AreThreads (m.new_threads p g.started) plan.threads.items
  pub line : g.line ≡ plan.line

-- the turn of the thread with this number, with these choices, is planned so, unless numbers run out
abbrev pub Plans : Result Plan Stop → Program → m.State → ℕ → List Value → State → Type 0
Plans result p s t choices c = ComesOr (StepRunsOut p s (record { thread = t; choices = choices })) result (λ plan r. Lands (Planned plan p s t c) r) (turn_in p s t choices)

abbrev pub heap_or : List Stored → Option (List Stored) → List Stored
heap_or h None = h
heap_or h (Some k) = k

-- the plan is carried out
pub record Committed (plan : Plan) (c d : State) : Type 0 where
  pub heap : d.heap ≡ heap_or c.heap plan.heap
  pub old : Thread
  pub is : slice_get c.threads.items plan.place ≡ Some old
  pub new : Thread
  pub number : new.number ≡ old.number
  pub frames : Settled plan.frames old.frames.items new.frames.items
  pub threads : d.threads.items ≡ slice_set c.threads.items plan.place new ++ plan.threads.items

-- what a turn comes to is method's step, unless numbers run out at it; of want of memory nothing is said
abbrev pub Answers : Result ℕ Stop → Program → m.State → m.Event → State → Type 0
Answers (Ok line) p s e c = Steps (stepped.Next line) p s e c
Answers (Err Misfit) p s e c = Steps stepped.NotEnabled p s e c
Answers (Err (Fault kind line)) p s e c = Steps (stepped.Fault kind line) p s e c
Answers (Err (Wide w)) p s e c = Steps (stepped.Wide w) p s e c
Answers (Err Exhausted) p s e c = StepRunsOut p s e
Answers (Err OutOfMemory) p s e c = Unit {0}
