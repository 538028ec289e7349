-- What a machine's turn on ghost code leaves without annotations. Own.
use Rattle.std.specs.Prelude.{◌≡◌, ℕ, Bool, true, false, not, ◌&&◌, List, [], ◌∷◌, map, Option, None, Some, slice_get}
use Rattle.object_types.specs.declared.values.Value.{Value}
use Rattle.method.specs.declared.program.Action.{Action}
use Rattle.method.specs.declared.program.Action.TheVariants.{Simply, Declare, Define, WrapObject, UnwrapObject, AssertSpec, FreeObject, SpawnThread, Atomic}
use Rattle.method.specs.declared.program.Stmt.{Stmt}
use Rattle.method.specs.declared.program.Stmt.TheVariants.{Do, If', While', DoWhile', Unwrapping', Call, Return}
use Rattle.method.specs.declared.program.FunctionInfo.{FunctionInfo}
use Rattle.method.specs.declared.program.Program.{Program}
use Rattle.object_types.specs.Sets.{every}
use Rattle.object_types.specs.Heap.{Heap, Same}
use Rattle.method.specs.Legal.{Good}
use Rattle.method.specs.Typing.{WellTyped}
use Rattle.machine_laws.specs.Outcomes.{OnEnd}
use Rattle.method.specs.Trace.{Memory}
use Rattle.method.specs.RowLock.{program as lock_program}
use Rattle.safe_counter.specs.Shared.{program as counter_program}
use Rattle.method.specs.Actions.{Supply, Fresh}
use Rattle.method.specs.Expressions.{End, Misfit, Failed, Gave}
use Rattle.method.specs.Machine.{Remaining, Run, Test, WrapAgain, Receive, Activation, State, Event, IsStart, Turn, thread_turn, begin, frames_of, next_number, run, Safe}
use Rattle.plain_machine.specs.PlainSteps.{Comes, Waits, Fails, Yields, PlainTurn, plain_turn, plain_step}
use Rattle.plain_machine.specs.Erasure.{plain_heap, plain_frame, erasure}
use Rattle.plain_machine.specs.SafePlain.{NoFault}
use Rattle.plain_machine.specs.GhostApart.{GhostApart, ghost_inner, ghost_action, ghost_row}
use Rattle.erasure_law.specs.ApartCode.{threads_apart}
use Rattle.erasure_law.specs.Choices.{frames_choices}

-- a block without concrete statements is no event of the plain machine either
abbrev pub silent_action : Program → FunctionInfo → Action → Bool
silent_action p f (Simply s) = ghost_action p f (Simply s)
silent_action p f (Declare i) = ghost_action p f (Declare i)
silent_action p f (Define i r) = ghost_action p f (Define i r)
silent_action p f (WrapObject ty q e) = true
silent_action p f (UnwrapObject e) = true
silent_action p f (AssertSpec e) = true
silent_action p f (FreeObject e) = false
silent_action p f (SpawnThread k es) = false
silent_action p f (Atomic ls body) = every (ghost_inner p f) body.items

abbrev pub silent_stmt : Program → FunctionInfo → Stmt → Bool
silent_stmt p f (Do line x) = silent_action p f x
silent_stmt p f (If' line in_ghost e m a n b) = in_ghost && (ghost_row p f a && ghost_row p f b)
silent_stmt p f (While' line invs e m row) = false
silent_stmt p f (DoWhile' line invs m row tested e) = false
silent_stmt p f (Unwrapping' line ty q e m row) = true
silent_stmt p f (Call line to c k es) = false
silent_stmt p f (Return line e) = false

-- the items that aren't items of the plain machine
abbrev pub silent : Program → FunctionInfo → List Remaining → Bool
silent p f [] = false
silent p f (Run s ∷ code) = silent_stmt p f s
silent p f (Test line e s ∷ code) = false
silent p f (WrapAgain line ty o ∷ code) = true
silent p f (Receive line place c ∷ code) = false

pub record LeavesAll (p : Program) (h : Heap) (before : List Activation) (turn : Turn) : Type 0 where
  pub heap : Same (plain_heap p h) (plain_heap p turn.heap)
  pub frames : map (plain_frame p) turn.frames ≡ map (plain_frame p) before
  pub started : turn.started ≡ []

abbrev pub Leaves : Program → Heap → List Activation → End Turn → Type 0
Leaves p h before Misfit = Unit {0}
Leaves p h before (Failed n kind line) = Unit {0}
Leaves p h before (Gave turn) = LeavesAll p h before turn

-- The turn of the plain machine that a turn of the machine is, but for its heap's list of references.
pub record Erases (p : Program) (plain : PlainTurn) (turn : Turn) : Type 0 where
  pub heap : Same plain.heap (plain_heap p turn.heap)
  pub frames : plain.frames ≡ map (plain_frame p) turn.frames
  pub started : plain.started ≡ map (λ x. plain_frame p (begin p x)) turn.started
  pub line : plain.line ≡ turn.line

abbrev pub Leads : Program → Comes PlainTurn → Turn → Type 0
Leads p Waits turn = ⊥
Leads p (Fails kind line) turn = ⊥
Leads p (Yields plain) turn = Erases p plain turn

-- the same, but for the line: that of the statement inside the block
abbrev pub LeadsIn : Program → Comes PlainTurn → Turn → Type 0
LeadsIn p c turn = (line : ℕ) × Leads p c (record turn { line = line })

-- in any program, a turn on an item of ghost code leaves heap and functions as they were, without annotations, and starts no thread
abbrev pub GhostTurnsAreSilent : Type 0
GhostTurnsAreSilent =
    (p : Program) (supply : Supply) (choices : List Value) (a : Activation) (below : List Activation) (h : Heap) (f : FunctionInfo) → slice_get p.functions.items a.context.function ≡ Some f → silent p f a.code ≡ true →
    Leaves p h (a ∷ below) (thread_turn p supply choices (a ∷ below) h).end

-- the code of a state that a run reaches is apart
abbrev pub CodeStaysApart : Type 0
CodeStaysApart = (p : Program) → WellTyped p → GhostApart p → (s : State) → IsStart p s → Good p s.heap → (events : List Event) → threads_apart p (run p events s).threads ≡ true

-- what a thread is about to do, where the plain machine has an item for it
abbrev pub concrete_code : Program → Option FunctionInfo → List Remaining → Bool
concrete_code p None code = false
concrete_code p (Some f) code = not (silent p f code)

abbrev pub concrete_frames : Program → List Activation → Bool
concrete_frames p [] = false
concrete_frames p (a ∷ below) = concrete_code p (slice_get p.functions.items a.context.function) a.code

-- In a state that a run reaches, on a good heap, a turn on such an item that goes on is the plain machine's turn, without annotations.
abbrev pub ConcreteTurnsLead : Type 0
ConcreteTurnsLead =
    (p : Program) → WellTyped p → GhostApart p → (s : State) → IsStart p s → Good p s.heap → (events : List Event) → let s' = run p events s in Good p s'.heap →
    (e : Event) → let fs = frames_of e.thread s'.threads in concrete_frames p fs ≡ true →
    OnEnd (thread_turn p (Fresh (next_number s'.threads)) e.choices fs s'.heap).end (LeadsIn p (plain_turn p (frames_choices p fs e.choices) (map (plain_frame p) fs) (plain_heap p s'.heap)))

-- Of a program that is safe: in a state that a run reaches, no step of a thread that is about to do such an item is a fault without annotations.
abbrev pub ConcreteStepsAreSafe : Type 0
ConcreteStepsAreSafe =
    (p : Program) → WellTyped p → GhostApart p → Safe p → (s : State) → IsStart p s → Good p s.heap → (events : List Event) (e : Event) → let s' = run p events s in concrete_frames p (frames_of e.thread s'.threads) ≡ true →
    NoFault (plain_step p (erasure p s') e)

-- the programs of the lock and of the counter meet the premise, whatever memory their vectors lie in
abbrev pub LockIsApart : Type 0
LockIsApart = (m : Memory) → GhostApart (lock_program m)

abbrev pub CounterIsApart : Type 0
CounterIsApart = (m : Memory) → GhostApart (counter_program m)
