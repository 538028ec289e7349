-- What a replay answers, beside the bytes that were written. Own.
use Rattle.std.specs.Prelude.{◌≡◌, ℕ, Bool, true, false, List, Option, Result, Ok, Err}
use Rattle.vcc_base.specs.Maps.{NowWritten, FrontWritten}
use Rattle.spec_values.specs.Answers.{operands}
use Rattle.schedule_replay.specs.declared.fault.ReplayFault.{ReplayFault}
use Rattle.schedule_replay.specs.declared.fault.ReplayFault.TheVariants as fault
use Rattle.method.specs.declared.program.Program.{Program}
use Rattle.method.specs.Machine as m
use Rattle.ref_machine.specs.declared.state.State.{State}
use Rattle.ref_machine.specs.declared.start.StartFault.{StartFault}
use Rattle.ref_machine.specs.declared.step.StepFault.{StepFault}
use Rattle.ref_machine.specs.declared.step.StepFault.TheVariants.{Exhausted, OutOfMemory}
use Rattle.ref_machine.specs.States.{Stands}
use Rattle.ref_machine.specs.Starting.{StartsNot}
use Rattle.object_types.specs.Heap.{empty_heap}
use Rattle.method.specs.Starts.{start}
use Rattle.schedule_format.specs.Schedules.{Schedule}
use Rattle.schedule_replay.specs.ReplayText.{Replay, Clean, Stopped, WideAt, NoStart, replay_from, replay_of}

-- why the machine gave up, as the replay's fault
abbrev pub stop_of : StepFault → ReplayFault
stop_of Exhausted = fault.Exhausted
stop_of OutOfMemory = fault.OutOfMemory

-- True at a clean end and false at a fault or an event that isn't enabled, with the whole text written; so too where main's arguments don't fit, and at Wide, with its operands. Where the sink, the machine's numbers or memory gave up, a front of the text is written.
abbrev pub Answers : Result Bool ReplayFault → Replay → Option (List ℕ) → Option (List ℕ) → Type 0
Answers (Ok true) r old new = (r.ending ≡ Clean) × NowWritten old new r.text
Answers (Ok false) r old new = (r.ending ≡ Stopped) × NowWritten old new r.text
Answers (Err fault.BadArgs) r old new = (r.ending ≡ NoStart) × NowWritten old new r.text
Answers (Err (fault.Wide w)) r old new = (r.ending ≡ WideAt (operands w)) × NowWritten old new r.text
Answers (Err (fault.Sink f)) r old new = FrontWritten old new r.text
Answers (Err fault.Exhausted) r old new = FrontWritten old new r.text
Answers (Err fault.OutOfMemory) r old new = FrontWritten old new r.text

-- the answer to the events' replay from each state that the code's stands for
abbrev pub AnswersFrom : Result Bool ReplayFault → Program → List m.Event → State → Option (List ℕ) → Option (List ℕ) → Type 0
AnswersFrom result p es c old new = (s : m.State) → Stands s c → Answers result (replay_from p 0 es s) old new

-- the answer to the replay of any schedule of a program that doesn't start, for this reason
abbrev pub AnswersNoStart : Result Bool ReplayFault → StartFault → Option (List ℕ) → Option (List ℕ) → Type 0
AnswersNoStart result f old new = (p : Program) (s : Schedule) → StartsNot f (start p empty_heap s.arguments) → Answers result (replay_of p s) old new
