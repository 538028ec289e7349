-- What is printed of events that are all steps. Own; for the worked rows.
use Rattle.std.specs.Prelude.{ℕ, ◌+◌, List, [], ◌∷◌, ◌++◌, Option, Some, None}
use Rattle.method.specs.declared.program.Program.{Program}
use Rattle.method.specs.Overflow.{Overflow}
use Rattle.method.specs.Machine.{State, Event, Answer, NotEnabled, Faulted, Next, step, step_overflow, left_by}
use Rattle.schedule_replay.specs.ReplayText.{step_text}

-- the line of event k, one of thread t, before those behind it; none where it isn't a step
abbrev pub line_before : ℕ → ℕ → Option Overflow → Answer → Option (List ℕ) → Option (List ℕ)
line_before k t None (Next s line) (Some more) = Some (step_text k t line ++ more)
line_before k t None (Next s line) None = None
line_before k t None (Faulted kind line) more = None
line_before k t None NotEnabled more = None
line_before k t (Some w) answer more = None

-- the lines of events that are all steps
abbrev pub lines : Program → ℕ → List Event → State → Option (List ℕ)
lines p k [] s = Some []
lines p k (e ∷ es) s = line_before (k + 1) e.thread (step_overflow p s e) (step p s e) (lines p (k + 1) es (left_by s (step p s e)))
