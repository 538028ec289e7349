-- What fine steps come to. Own.
use Rattle.std.specs.Prelude.{◌≡◌, ◌⊎◌, ℕ, List}
use Rattle.object_types.specs.declared.values.Value.{Value}
use Rattle.method.specs.declared.program.Program.{Program}
use Rattle.method.specs.Legal.{Good}
use Rattle.method.specs.Machine.{State, Event, NotEnabled, step, IsStart, Safe, run}
use Rattle.method.specs.Scopes.{Scoped}
use Rattle.method.specs.Typing.{WellTyped}
use Rattle.condition_meaning.specs.Promises.{ConditionsAreValid}
use Rattle.conditions_law.specs.Texts.{TextFits}
use Rattle.grain_law.specs.FineSteps.{SafeInFineSteps, fine_step, fine_run, reads_by, fine_start}

-- a program that is safe is safe in fine steps
abbrev pub SafeIsSafeInFineSteps : Type 0
SafeIsSafeInFineSteps = (p : Program) → WellTyped p → Safe p → SafeInFineSteps p

-- and where it is safe in fine steps it is safe: fine steps ask no less
abbrev pub SafeInFineStepsIsSafe : Type 0
SafeInFineStepsIsSafe = (p : Program) → SafeInFineSteps p → Safe p

-- Reads of the thread that the event names, which leave the state as it is, and behind them an event to which the answer is the machine's: the next state with its line, or a fault with its kind and line.
pub record AnswersInFineSteps (p : Program) (s : State) (e : Event) : Type 0 where
  pub number : ℕ
  pub choices : List Value
  pub stays : (fine_run p (reads_by number e.thread) (fine_start s)).state ≡ s
  pub answers : (fine_step p (fine_run p (reads_by number e.thread) (fine_start s)) (record { thread = e.thread; choices = choices })).answer ≡ step p s e

-- from any state of any program, each event that the machine enables is so many reads and one step more
abbrev pub StepsAreFineSteps : Type 0
StepsAreFineSteps = (p : Program) (s : State) (e : Event) → (step p s e ≡ NotEnabled) ⊎ AnswersInFineSteps p s e

-- so each run of the machine is one in fine steps, with nothing read at its end
abbrev pub RunsAreFineRuns : Type 0
RunsAreFineRuns =
    (p : Program) (s : State) (events : List Event) → (fine_events : List Event) × (fine_run p fine_events (fine_start s) ≡ fine_start (run p events s))

-- in fine steps a safe program comes to no state but those of the machine's runs
abbrev pub FineRunsAreRuns : Type 0
FineRunsAreRuns =
    (p : Program) → WellTyped p → Safe p → (s : State) → IsStart p s → Good p s.heap → (events : List Event) →
    (machine_events : List Event) × ((fine_run p events (fine_start s)).state ≡ run p machine_events s)

-- a program whose conditions are all valid is safe in fine steps
abbrev pub ConditionsMeanSafeInFineSteps : Type 0
ConditionsMeanSafeInFineSteps = (p : Program) → WellTyped p → Scoped p → TextFits p → ConditionsAreValid p → SafeInFineSteps p
