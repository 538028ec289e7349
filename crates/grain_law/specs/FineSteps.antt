-- The machine in fine steps: each read of a field in code outside atomic blocks is a step of its own, so that other threads act between two reads of one item, and between a read and the use of its value.
-- Own; that what a thread owns, or knows to be stable, needs no such steps is from CAV 2010.
use Rattle.std.specs.Prelude.{ℕ, zero, suc, ◌==◌, Bool, if◌then◌else◌, List, [], ◌∷◌, ◌++◌, map}
use Rattle.object_types.specs.declared.values.Value.{Value}
use Rattle.object_types.specs.Heap.{Heap}
use Rattle.method.specs.declared.program.CheckKind.TheVariants.{Read, LoopInv}
use Rattle.method.specs.declared.program.Program.{Program}
use Rattle.method.specs.Legal.{Good}
use Rattle.method.specs.Expressions.{End, Misfit, Failed, Gave, Outcome, Gives, Spot, check_specs, scene, Tested, spec_test}
use Rattle.method.specs.Actions.{Fresh, no_choices, spot}
use Rattle.method.specs.Machine.{Activation, State, Event, Answer, NotEnabled, Faulted, Next, frames_of, next_number, answer_of, IsStart, IsFine}
use Rattle.grain_law.specs.FieldReads.{Reading, Refuses, Reads, Ends, after_reading, eval_with}
use Rattle.grain_law.specs.Plans.{Plan, Rest, Work, Finish, turn_plan, item_line, item_fits, item_invariants}

module _ (p : Program) (at_ : Spot) (h : Heap) (l : List Value) where
  -- a plan, with these values read before
  abbrev pub work : {A : Type 0} → Plan A → List Value → Outcome (Reading A)
  work (Rest a) us = Gives (Ends a us)
  work (Work e k) us = after_reading (eval_with p at_ h l e us) (λ v vs. work (k v) vs)

-- a loop's invariants are checked with its first event alone
abbrev pub first_tests : List Value → List Tested → List Tested
first_tests [] ts = ts
first_tests (u ∷ us) ts = []

-- how far a thread's next item comes, with these values read before
abbrev pub item_reading : Program → Activation → List Activation → Heap → List Value → Outcome (Reading Finish)
item_reading p a below h us =
    let at_ = spot a.context [] (item_line p a a.code) in
    check_specs at_ (first_tests us (map (λ e. spec_test p e (scene a.context h a.locals)) (item_invariants p a a.code))) 0 LoopInv (
    work p at_ h a.locals (turn_plan p a a.code below) us
    )

-- a state of the machine, and what each thread has read for its next item
pub record FineState : Type 0 where
  pub state : State
  pub reads : ℕ → List Value

-- the answer to an event, and what each thread has read then
pub record FineStep : Type 0 where
  pub answer : Answer
  pub reads : ℕ → List Value

abbrev pub with_reads : ℕ → List Value → (ℕ → List Value) → ℕ → List Value
with_reads t us reads u = if u == t then us else reads u

-- nothing more is read
abbrev pub answer_alone : Answer → FineState → FineStep
answer_alone answer f = record { answer = answer; reads = f.reads }

-- an event of thread t; its item has this line, and `fits` says whether it takes these choices
module _ (p : Program) (f : FineState) (t : ℕ) (choices : List Value) (fits : Bool) (line : ℕ) where
  -- The event of a read takes no choices, and leaves the state; the item's last event takes the machine's choices, and does what the machine does.
  abbrev pub reading_step : Reading Finish → FineStep
  reading_step Refuses = answer_alone (if no_choices choices then Faulted Read line else NotEnabled) f
  reading_step (Reads v) =
      if no_choices choices
      then record { answer = Next f.state line; reads = with_reads t (f.reads t ++ v ∷ []) f.reads }
      else answer_alone NotEnabled f
  reading_step (Ends finish us) =
      if fits
      then record { answer = answer_of p f.state t (finish (Fresh (next_number f.state.threads)) choices f.state.heap).end; reads = with_reads t [] f.reads }
      else answer_alone NotEnabled f

  -- where a check fails before one more read, the event is the item's last
  abbrev pub end_step : End (Reading Finish) → FineStep
  end_step Misfit = answer_alone NotEnabled f
  end_step (Failed n kind at_line) = answer_alone (if fits then Faulted kind at_line else NotEnabled) f
  end_step (Gave r) = reading_step r

-- a thread that isn't there, or has ended, takes no step
abbrev pub frames_step : Program → FineState → Event → List Activation → FineStep
frames_step p f e [] = answer_alone NotEnabled f
frames_step p f e (a ∷ below) =
    end_step p f e.thread e.choices (item_fits p a a.code e.choices) (item_line p a a.code) (item_reading p a below f.state.heap (f.reads e.thread)).end

-- The fine step of one event.
abbrev pub fine_step : Program → FineState → Event → FineStep
fine_step p f e = frames_step p f e (frames_of e.thread f.state.threads)

-- a fault leaves all as it was
abbrev pub next_by : FineState → Answer → (ℕ → List Value) → FineState
next_by f NotEnabled reads = f
next_by f (Faulted kind line) reads = f
next_by f (Next s line) reads = record { state = s; reads = reads }

abbrev pub next_state : FineState → FineStep → FineState
next_state f step = next_by f step.answer step.reads

-- the state that a list of events comes to
abbrev pub fine_run : Program → List Event → FineState → FineState
fine_run p [] f = f
fine_run p (e ∷ es) f = fine_run p es (next_state f (fine_step p f e))

-- the reads of a thread, this many
abbrev pub reads_by : ℕ → ℕ → List Event
reads_by zero t = []
reads_by (suc n) t = record { thread = t; choices = [] } ∷ reads_by n t

-- at the start nothing has been read
abbrev pub fine_start : State → FineState
fine_start s = record { state = s; reads = λ t. [] }

-- In every interleaving of fine steps, from every start on a good heap, each step is as a safe program's steps have to be (IsFine of method): no fault, every invariant stays, the heap behind it is good, no claimed object is opened.
abbrev pub SafeInFineSteps : Program → Type 0
SafeInFineSteps p =
    (s : State) → IsStart p s → Good p s.heap → (events : List Event) (e : Event) →
    let f = fine_run p events (fine_start s) in IsFine p f.state (fine_step p f e).answer
