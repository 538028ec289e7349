-- What a replay prints. Own: a line for each step, and behind the last step the number of steps and the heap's records.
use Rattle.std.specs.Prelude.{ℕ, ◌+◌, List, [], ◌∷◌, ◌++◌, codes, decimal, Option, Some, None}
use Rattle.object_types.specs.Heap.{Heap, empty_heap}
use Rattle.method.specs.declared.program.CheckKind.{CheckKind}
use Rattle.method.specs.declared.program.CheckKind.TheVariants.{Divide, Range, Read, Write, Writes, Owns, Wrap, Unwrap, Claimed, Invariant, AtomicClosed, MakeClaim, ClaimStable, DestroyClaim, Requires, Ensures, Assert, LoopInv, Free, Spawn, Reflexive, Stable}
use Rattle.method.specs.declared.program.Program.{Program}
use Rattle.method.specs.Overflow.{Overflow}
use Rattle.method.specs.Expressions.{End, Misfit, Failed, Gave}
use Rattle.method.specs.Machine.{State, Event, Answer, NotEnabled, Faulted, Next, step, step_overflow, left_by}
use Rattle.method.specs.Starts.{start}
use Rattle.schedule_format.specs.Schedules.{Schedule}
use Rattle.schedule_replay.specs.Records.{records_text}

-- the name of a kind of check
abbrev pub kind_text : CheckKind → List ℕ
kind_text Divide = codes "Divide"
kind_text Range = codes "Range"
kind_text Read = codes "Read"
kind_text Write = codes "Write"
kind_text Writes = codes "Writes"
kind_text Owns = codes "Owns"
kind_text Wrap = codes "Wrap"
kind_text Unwrap = codes "Unwrap"
kind_text Claimed = codes "Claimed"
kind_text Invariant = codes "Invariant"
kind_text AtomicClosed = codes "AtomicClosed"
kind_text MakeClaim = codes "MakeClaim"
kind_text ClaimStable = codes "ClaimStable"
kind_text DestroyClaim = codes "DestroyClaim"
kind_text Requires = codes "Requires"
kind_text Ensures = codes "Ensures"
kind_text Assert = codes "Assert"
kind_text LoopInv = codes "LoopInv"
kind_text Free = codes "Free"
kind_text Spawn = codes "Spawn"
kind_text Reflexive = codes "Reflexive"
kind_text Stable = codes "Stable"

-- K tT line L, where event K is one of thread T
abbrev pub step_text : ℕ → ℕ → ℕ → List ℕ
step_text k t line = decimal k ++ (codes " t" ++ (decimal t ++ (codes " line " ++ (decimal line ++ codes "\n"))))

-- K tT line L fault KIND
abbrev pub fault_text : ℕ → ℕ → ℕ → CheckKind → List ℕ
fault_text k t line kind = decimal k ++ (codes " t" ++ (decimal t ++ (codes " line " ++ (decimal line ++ (codes " fault " ++ (kind_text kind ++ codes "\n"))))))

-- K tT not enabled
abbrev pub idle_text : ℕ → ℕ → List ℕ
idle_text k t = decimal k ++ (codes " t" ++ (decimal t ++ codes " not enabled\n"))

-- the line behind the last event, of which there were k
abbrev pub clean_text : ℕ → List ℕ
clean_text k = codes "clean " ++ (decimal k ++ codes " steps\n")

-- what is printed behind the last event: how many steps there were, and the heap's records
abbrev pub end_text : Program → Heap → ℕ → List ℕ
end_text p h k = clean_text k ++ records_text p h

-- How a replay ends: behind the last event; at a fault or an event that isn't enabled; where an annotation's value leaves 128 bits; or it doesn't begin, since the arguments don't fit main.
pub data Ending : Type 0 where
  Clean : Ending
  Stopped : Ending
  WideAt : Overflow → Ending
  NoStart : Ending

-- what is printed up to the end
pub record Replay : Type 0 where
  pub text : List ℕ
  pub ending : Ending

-- nothing is printed behind this text
abbrev pub ends : List ℕ → Ending → Replay
ends text ending = record { text = text; ending = ending }

-- a line, and what is printed behind it
abbrev pub goes_on : List ℕ → Replay → Replay
goes_on line more = record { text = line ++ more.text; ending = more.ending }

-- event k, one of thread t, with what it meets, its answer, and the replay of the events behind it
abbrev pub replay_step : ℕ → ℕ → Option Overflow → Answer → Replay → Replay
replay_step k t (Some w) answer more = ends [] (WideAt w)
replay_step k t None NotEnabled more = ends (idle_text k t) Stopped
replay_step k t None (Faulted kind line) more = ends (fault_text k t line kind) Stopped
replay_step k t None (Next s line) more = goes_on (step_text k t line) more

-- the replay of these events from a state on; k events were before
unfoldable pub replay_from : Program → ℕ → List Event → State → Replay
replay_from p k [] s = ends (end_text p s.heap k) Clean
replay_from p k (e ∷ es) s = replay_step (k + 1) e.thread (step_overflow p s e) (step p s e) (replay_from p (k + 1) es (left_by s (step p s e)))

-- what follows main's start: nothing where the arguments don't fit, a line where a requires clause is false, or the events
abbrev pub begun : Program → List Event → End State → Replay
begun p es Misfit = ends [] NoStart
begun p es (Failed n kind line) = ends (fault_text 0 1 line kind) Stopped
begun p es (Gave s) = replay_from p 0 es s

-- the same, but for a value of main's contract on the way that leaves 128 bits
abbrev pub replay_start : Program → List Event → Option Overflow → End State → Replay
replay_start p es (Some w) end = ends [] (WideAt w)
replay_start p es None end = begun p es end

-- The replay of a schedule from the empty heap.
unfoldable pub replay_of : Program → Schedule → Replay
replay_of p s = let o = start p empty_heap s.arguments in replay_start p s.events o.overflow o.end
