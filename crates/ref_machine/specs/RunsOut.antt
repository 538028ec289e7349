-- Where the code's numbers run out at a step. Own.
use Rattle.std.specs.Prelude.{◌≡◌, ℕ, ◌≤◌, ◌==◌, ◌⊎◌, List, [], ◌∷◌, IsTrue}
use Rattle.object_types.specs.Sets.{some}
use Rattle.method.specs.declared.program.Program.{Program}
use Rattle.method.specs.Actions.{Fresh}
use Rattle.method.specs.Machine as m
use Rattle.machine_turns.specs.RunsOut.{ThreadRunsOut}

-- two threads have the number
abbrev pub IsTwice : ℕ → List m.Thread → Type 0
IsTwice t [] = ⊥
IsTwice t (th ∷ ths) = ((th.number ≡ t) × IsTrue (some (λ u. u.number == t) ths)) ⊎ IsTwice t ths

-- The code's numbers run out at the step of an event: at the item that its thread comes to; or a thread has the last number, so that none is above those of all; or two threads have the event's number, as in no state that a start leads to.
pub data StepRunsOut (p : Program) (s : m.State) (e : m.Event) : Type 0 where
  at_item : ThreadRunsOut p (Fresh (m.next_number s.threads)) e.choices (m.frames_of e.thread s.threads) s.heap → StepRunsOut p s e
  at_last_thread : 4294967296 ≤ m.next_number s.threads → StepRunsOut p s e
  at_twins : IsTwice e.thread s.threads → StepRunsOut p s e
