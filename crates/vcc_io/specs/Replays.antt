-- What a run of a source along a schedule prints, and its status.
use Rattle.std.specs.Prelude.{◌≡◌, ◌⊎◌, ℕ, ◌<◌, List, [], ◌++◌, codes, Option, Err}
use Rattle.vcc_base.specs.Maps.{Map, NowWritten, FrontWritten}
use Rattle.vcc_base.specs.declared.limit.Limit.TheVariants.{ScheduleBytes}
use Rattle.method.specs.declared.program.Program.{Program}
use Rattle.schedule_format.specs.Schedules.{Schedule}
use Rattle.schedule_format.specs.Text.{IsScheduleText}
use Rattle.schedule_format.specs.Reading.{schedule_of}
use Rattle.schedule_format.specs.declared.fault.ScheduleFault.{ScheduleFault}
use Rattle.schedule_format.specs.declared.fault.ScheduleFault.TheVariants as s
use Rattle.vcc_base.specs.declared.sink.SinkFault.TheVariants as sink
use Rattle.schedule_replay.specs.declared.fault.ReplayFault.{ReplayFault}
use Rattle.schedule_replay.specs.declared.fault.ReplayFault.TheVariants as replay
use Rattle.schedule_replay.specs.ReplayText.{Replay, Ending, Clean, Stopped, WideAt, NoStart, replay_of}
use Rattle.schedule_replay.specs.RunsOut.{ReplayRunsOut}
use Rattle.vcc_io.specs.declared.refusal.LineFault.{LineFault}
use Rattle.vcc_io.specs.declared.refusal.LineFault.TheVariants.{BadLine, BadNumber, CutShort, Trailing, CountOver}
use Rattle.vcc_io.specs.declared.refusal.Refusal.{Refusal}
use Rattle.vcc_io.specs.declared.refusal.Refusal.TheVariants.{BadSchedule, BadArgs, Wide, Exhausted, OutOfMemory}
use Rattle.vcc_io.specs.Held.{HoldsProgram, HoldsWithin, IsSourceStop, IsUnread}
use Rattle.vcc_io.specs.Faults.{IsReadFault, ReadCounts}
use Rattle.vcc_io.specs.Lines.{Written, IsReported, line, wide_line}

-- ---- before the replay

-- the schedule's fault that is wrong with this line in this way
abbrev pub schedule_fault : ℕ → LineFault → ScheduleFault
schedule_fault n BadLine = s.BadLine n
schedule_fault n BadNumber = s.BadNumber n
schedule_fault n CutShort = s.CutShort n
schedule_fault n Trailing = s.Trailing n
schedule_fault n CountOver = s.CountOver n

-- the first fault of bytes that are no schedule; or memory is wanted
abbrev pub IsNoSchedule : List ℕ → Refusal → Type 0
IsNoSchedule bytes (BadSchedule n fault) = schedule_of bytes ≡ Err (schedule_fault n fault)
IsNoSchedule bytes OutOfMemory = Unit {0}
IsNoSchedule bytes _ = ⊥

-- the name holds the text of this schedule
pub record HoldsSchedule (m : Map) (name : List ℕ) (schedule : Schedule) : Type 0 where
  pub bytes : List ℕ
  pub held : HoldsWithin m name ScheduleBytes bytes
  pub text : IsScheduleText bytes schedule

-- the schedule's read refuses, or its bytes do
abbrev pub IsScheduleStop : Map → List ℕ → Refusal → Type 0
IsScheduleStop m name refusal = IsUnread m name ScheduleBytes refusal ⊎ ((bytes : List ℕ) × HoldsWithin m name ScheduleBytes bytes × IsNoSchedule bytes refusal)

-- No replay begins: the source is read and typed, then the schedule is read; the first that refuses decides.
abbrev pub IsRunStop : Map → List ℕ → List ℕ → Refusal → Type 0
IsRunStop m source_name schedule_name refusal = IsSourceStop m source_name refusal ⊎ ((p : Program) × HoldsProgram m source_name p × IsScheduleStop m schedule_name refusal)

-- ---- the replay

-- what is printed behind a replay's text
abbrev pub last_line : Ending → List ℕ
last_line Clean = []
last_line Stopped = []
last_line (WideAt w) = wide_line w.left w.right
last_line NoStart = line (codes "schedule: BadArgs")

-- the status that a replay ends with
abbrev pub replay_status : Ending → ℕ
replay_status Clean = 0
replay_status Stopped = 1
replay_status (WideAt w) = 5
replay_status NoStart = 3

-- what is printed of a replay
abbrev pub printed : Replay → List ℕ
printed r = r.text ++ last_line r.ending

-- The replay is printed whole, with its status; or a write failed (7), or the sink wanted memory (8), and a front of it is printed.
abbrev pub IsPrinted : Replay → Written → ℕ → Type 0
IsPrinted r w status =
    ((status ≡ replay_status r.ending) × NowWritten w.before w.after (printed r)) ⊎ ((status ≡ 7) × (w.faults_before < w.faults_after) × FrontWritten w.before w.after (printed r)) ⊎ ((status ≡ 8) × FrontWritten w.before w.after (printed r))

-- a front of the replay's text is printed, and behind it this refusal is reported
pub record BreaksOff (r : Replay) (refusal : Refusal) (w : Written) (status : ℕ) : Type 0 where
  pub front : List ℕ
  pub rest : List ℕ
  pub text : front ++ rest ≡ r.text
  pub middle : Option (List ℕ)
  pub written : NowWritten w.before middle front
  pub reported : IsReported (Err refusal) (record w { before = middle }) status

-- The replay is printed; or it breaks off where the machine wants memory, or where its numbers run out, and then U holds.
abbrev pub IsReplayedOr : Type 0 → Replay → Written → ℕ → Type 0
IsReplayedOr U r w status = IsPrinted r w status ⊎ BreaksOff r OutOfMemory w status ⊎ (U × BreaksOff r Exhausted w status)

-- the replay of this schedule by this program is printed; or it breaks off where the machine wants memory, or where its numbers run out at one of the events
abbrev pub IsReplayed : Program → Schedule → Written → ℕ → Type 0
IsReplayed p schedule w status = IsReplayedOr (ReplayRunsOut p schedule) (replay_of p schedule) w status

-- what is unchanged where the sink took no more
abbrev pub IsStill : Written → Type 0
IsStill w = (w.after ≡ w.before) × (w.faults_after ≡ w.faults_before)

-- what is reported of a replay that gave no answer: why, but for the sink, which gets nothing more
abbrev pub IsStop : ReplayFault → Written → ℕ → Type 0
IsStop replay.BadArgs w status = IsReported (Err BadArgs) w status
IsStop (replay.Wide x) w status = IsReported (Err (Wide x)) w status
IsStop replay.Exhausted w status = IsReported (Err Exhausted) w status
IsStop replay.OutOfMemory w status = IsReported (Err OutOfMemory) w status
IsStop (replay.Sink sink.Failed) w status = (status ≡ 7) × IsStill w
IsStop (replay.Sink sink.OutOfMemory) w status = (status ≡ 8) × IsStill w

-- ---- a run

-- no replay of these two names begins, and why is reported; it is a read fault only where a read failed
pub record IsStoppedRun (m : Map) (source_name schedule_name : List ℕ) (reads : ReadCounts) (w : Written) (status : ℕ) : Type 0 where
  pub refusal : Refusal
  pub stops : IsRunStop m source_name schedule_name refusal
  pub fault : IsReadFault {X = Program} (Err refusal) → reads.reads_before < reads.reads_after
  pub reported : IsReported (Err refusal) w status

-- the two names hold a program and a schedule, and the replay of the one by the other is printed
pub record IsReplayRun (m : Map) (source_name schedule_name : List ℕ) (w : Written) (status : ℕ) : Type 0 where
  pub program : Program
  pub schedule : Schedule
  pub source : HoldsProgram m source_name program
  pub events : HoldsSchedule m schedule_name schedule
  pub replayed : IsReplayed program schedule w status

-- the run of these two names
abbrev pub IsRunOfNames : Map → List ℕ → List ℕ → ReadCounts → Written → ℕ → Type 0
IsRunOfNames m source_name schedule_name reads w status =
    IsStoppedRun m source_name schedule_name reads w status ⊎ IsReplayRun m source_name schedule_name w status
