-- What the code makes of a thread's turn, beside what method says of it. The code gives the change alone: the functions stay where they are, and so does the heap where no action changes it. Own.
use Rattle.std.specs.Prelude.{◌≡◌, ℕ, if◌then◌else◌, List, [], ◌∷◌, ◌++◌, map, Option, None, Some, Result, slice_get}
use Rattle.std.proofs.Common.{Vec, Global}
use Rattle.object_types.specs.declared.references.Ref.{Ref}
use Rattle.object_types.specs.declared.records.Stored.{Stored}
use Rattle.object_types.specs.declared.values.Value.{Value}
use Rattle.object_types.specs.Values.{referent, truth}
use Rattle.object_types.specs.Heap.{Heap, IsFinite}
use Rattle.object_types.specs.Lookups.{look_up}
use Rattle.int_ranges.specs.declared.ctype.CType.{CType}
use Rattle.method.specs.declared.program.Action.{Action}
use Rattle.method.specs.declared.program.CheckKind.TheVariants.{Requires, Writes}
use Rattle.method.specs.declared.program.FunctionInfo.{FunctionInfo}
use Rattle.method.specs.declared.program.Expr.{Expr}
use Rattle.method.specs.declared.program.Spec.{Spec}
use Rattle.method.specs.declared.program.Receiver.{Receiver}
use Rattle.method.specs.declared.program.Stmt.{Stmt}
use Rattle.method.specs.declared.program.Target.{Target}
use Rattle.method.specs.declared.program.Stmt.TheVariants.{Do}
use Rattle.method.specs.declared.program.Program.{Program}
use Rattle.method.specs.Expressions.{Outcome, Gives, after, Spot, eval, eval_all, check_specs, clause_tests, item_tests, may_write, call_scene}
use Rattle.method.specs.Actions.{Fresh, Place as APlace, Progress as AProgress, spot, starting, left_side, unwrap_object, convert_to, store, callee}
use Rattle.method.specs.Machine as m
use Rattle.machine_values.specs.declared.spot.Context.{Context}
use Rattle.machine_values.specs.declared.stop.Stop.{Stop}
use Rattle.machine_values.specs.Spots.{heap_at, context_at}
use Rattle.machine_values.specs.Answers.{Comes, ComesOr}
use Rattle.machine_objects.specs.Runs.{Lands, Follows, contexts_at, Extra, progress_at, place_of, IsPlace}
use Rattle.machine_objects.specs.declared.progress.Place.{Place}
use Rattle.machine_objects.specs.declared.progress.Progress.{Progress}
use Rattle.machine_turns.specs.declared.activation.Activation.{Activation}
use Rattle.machine_turns.specs.declared.activation.Remaining.{Remaining}
use Rattle.machine_turns.specs.declared.turn.Here.{Here}
use Rattle.machine_turns.specs.declared.turn.Frames.{Frames}
use Rattle.machine_turns.specs.declared.turn.Frames.TheVariants.{Goes, Calls, Returns}
use Rattle.machine_turns.specs.declared.turn.Turn.{Turn}
use Rattle.machine_turns.specs.Frames.{left_of, ahead, bare_frame, frame_at, frames_of}
use Rattle.machine_turns.specs.RunsOut.{ThreadRunsOut}

-- these are the code's functions, up to the lists beside the heaps at their entries
abbrev pub AreFrames : List m.Activation → List Activation → Type 0
AreFrames fs cs = map bare_frame fs ≡ frames_of cs

-- the code behind its next item
abbrev pub behind : List m.Remaining → List m.Remaining
behind [] = []
behind (r ∷ rs) = rs

-- the heap behind a turn is the one that the code gives, or else the one before
abbrev pub IsHeap : Option (List Stored) → Heap → Heap → Type 0
IsHeap None before k = k ≡ before
IsHeap (Some c) before k = (k.get ≡ look_up c) × IsFinite k

-- the variables that the code gives, or else those before
abbrev pub locals_or : List Value → Option (Vec Value Global) → List Value
locals_or l None = l
locals_or l (Some v) = v.items

-- an item that is put onto the code, if there is one
abbrev pub put_onto : Option Remaining → List m.Remaining → List m.Remaining
put_onto None code = code
put_onto (Some r) code = left_of r ∷ code

-- the store of a call's value, into these variables of the caller
abbrev pub stored_in : List Value → List m.Activation → List m.Activation → Type 0
stored_in l [] fs = ⊥
stored_in l (c ∷ below) fs = fs ≡ m.went c l (behind c.code) ∷ below

-- what becomes of the functions of a thread: of the one that runs, with this code behind its item, and of those below
abbrev pub Framed : Frames → m.Activation → List m.Remaining → List m.Activation → List m.Activation → Type 0
Framed (Goes ls rs) a code below fs = fs ≡ m.went a (locals_or a.locals ls) (ahead rs.items ++ code) ∷ below
Framed (Calls r entered) a code below fs = (x : List Ref) × (fs ≡ frame_at x entered ∷ m.went a a.locals (put_onto r code) ∷ below)
Framed (Returns None) a code below fs = fs ≡ below
Framed (Returns (Some ls)) a code below fs = stored_in ls.items below fs

-- the code's turn is method's
pub record Turned (t : Turn) (a : m.Activation) (code : List m.Remaining) (below : List m.Activation) (before : Heap) (g : m.Turn) : Type 0 where
  pub heap : IsHeap t.heap before g.heap
  pub frames : Framed t.frames a code below g.frames
  pub lists : List (List Ref)
  pub started : g.started ≡ contexts_at lists t.started.items
  pub line : g.line ≡ t.line

-- a turn that leaves the heap and the variables as they were, and puts this code in the item's place
pub record IsMoved (t : Turn) (n : ℕ) (rs : Vec Remaining Global) : Type 0 where
  pub heap : t.heap ≡ None
  pub frames : t.frames ≡ Goes None rs
  pub started : t.started.items ≡ []
  pub line : t.line ≡ n

-- a turn that took an action, and puts this code in the item's place
pub record IsActed (t : Turn) (n : ℕ) (c : Progress) (rs : Vec Remaining Global) : Type 0 where
  pub heap : t.heap ≡ Some c.heap
  pub frames : t.frames ≡ Goes (Some c.locals) rs
  pub started : t.started ≡ c.started
  pub line : t.line ≡ n

-- a turn in which this function is called, and this item put into the call's place
pub record IsCalled (t : Turn) (n : ℕ) (r : Option Remaining) (entered : Activation) : Type 0 where
  pub heap : t.heap ≡ None
  pub frames : t.frames ≡ Calls r entered
  pub started : t.started.items ≡ []
  pub line : t.line ≡ n

-- a turn in which the function returns, and its caller stores nothing
pub record IsReturned (t : Turn) (n : ℕ) : Type 0 where
  pub heap : t.heap ≡ None
  pub frames : t.frames ≡ Returns None
  pub started : t.started.items ≡ []
  pub line : t.line ≡ n

-- the same, where its caller's store made this progress
pub record IsStoredTurn (t : Turn) (n : ℕ) (c : Progress) : Type 0 where
  pub heap : t.heap ≡ Some c.heap
  pub frames : t.frames ≡ Returns (Some c.locals)
  pub started : t.started ≡ c.started
  pub line : t.line ≡ n

-- the code comes to the turn that the definition comes to, or numbers run out on its way
abbrev pub TurnsOr : Type 0 → Result Turn Stop → m.Activation → List m.Remaining → List m.Activation → Heap → Outcome m.Turn → Type 0
TurnsOr U result a code below h o = ComesOr U result (λ t r. Lands (Turned t a code below h) r) o

-- the same of a turn that never exhausts them
abbrev pub TurnsTo : Result Turn Stop → m.Activation → List m.Remaining → List m.Activation → Heap → Outcome m.Turn → Type 0
TurnsTo result a code below h o = TurnsOr ⊥ result a code below h o

-- the same of all functions of a thread
abbrev pub TurnsAll : Type 0 → Result Turn Stop → List m.Activation → Heap → Outcome m.Turn → Type 0
TurnsAll U result [] h o = ComesOr U result (λ t r. ⊥) o
TurnsAll U result (a ∷ below) h o = TurnsOr U result a (behind a.code) below h o

-- a function that runs here, with this list beside the heap at its entry, and this code
abbrev pub running : List Ref → Here → List m.Remaining → m.Activation
running x here all = record { context = context_at x here.context.now; locals = here.locals.now; code = all }

-- wherever a turn is taken: whatever the lists beside the heaps, the code behind the item, and the functions below
abbrev pub OnTurn : Here → (Program → m.Activation → List m.Remaining → List m.Activation → Heap → Type 0) → Type 0
OnTurn here P =
    (x y : List Ref) → IsFinite (heap_at y here.heap.now) →
    (all code : List m.Remaining) (below : List m.Activation) → P here.program.now (running x here all) code below (heap_at y here.heap.now)

-- where a value is worked out, for a statement of this line
abbrev pub OnValue : Here → ℕ → (Program → Spot → Heap → List Value → Type 0) → Type 0
OnValue here line P = (x y : List Ref) → IsFinite (heap_at y here.heap.now) → P here.program.now (spot (context_at x here.context.now) [] line) (heap_at y here.heap.now) here.locals.now

-- the same, where these functions stand below
abbrev pub OnReturn : Here → List Activation → (Program → m.Activation → List m.Remaining → List m.Activation → Heap → Type 0) → Type 0
OnReturn here cs P =
    (x y : List Ref) → IsFinite (heap_at y here.heap.now) →
    (all code : List m.Remaining) (below : List m.Activation) → AreFrames below cs → P here.program.now (running x here all) code below (heap_at y here.heap.now)

-- the code's progress is that of an action that begins, with no lists but that beside the heap
abbrev pub plain : List Ref → Extra
plain y = record { support = y; changed = []; made = []; entries = [] }

pub record IsStarting (g : Progress) (stored : List Stored) (l : List Value) (next : ℕ) : Type 0 where
  pub heap : g.heap ≡ stored
  pub is : (y : List Ref) → progress_at (plain y) g ≡ starting (heap_at y stored) l (Fresh next)

-- items of code, as method has them: of the program, the function that runs, the code behind the item, the functions below and the heap

-- an item of the code
abbrev pub taken : ℕ → List Value → m.Remaining → Program → m.Activation → List m.Remaining → List m.Activation → Heap → Outcome m.Turn
taken next choices r p a code below h = m.turn_of p (Fresh next) choices a (r ∷ code) below h

-- an action
abbrev pub acting : ℕ → List Value → ℕ → Action → Program → m.Activation → List m.Remaining → List m.Activation → Heap → Outcome m.Turn
acting next choices line act = taken next choices (m.Run (Do line act))

-- an `if` with this test and these branches
abbrev pub choice : ℕ → Expr → List Stmt → List Stmt → Program → m.Activation → List m.Remaining → List m.Activation → Heap → Outcome m.Turn
choice line e then_body else_body p a code below h =
    after (eval p (spot a.context [] line) h a.locals e 0) (λ v. Gives (m.moved p line a (map m.Run (if truth v then then_body else else_body) ++ code) below h))

-- the head of a `while` with these invariants, this test and this body
abbrev pub while_head : ℕ → Stmt → List Spec → Expr → List Stmt → Program → m.Activation → List m.Remaining → List m.Activation → Heap → Outcome m.Turn
while_head line s invs e body p a code below h = m.while_turn p s (spot a.context [] line) invs e body a code below h

-- the head of a `do` with these invariants, this body and this test behind it
abbrev pub do_head : ℕ → List Spec → List Stmt → m.Remaining → Program → m.Activation → List m.Remaining → List m.Activation → Heap → Outcome m.Turn
do_head line invs body test p a code below h = m.invariants p (spot a.context [] line) invs h a.locals 0 (Gives (m.moved p line a (map m.Run body ++ test ∷ code) below h))

-- the head of an unwrapping block of an object of this type, with this body
abbrev pub unwrapping : ℕ → ℕ → ℕ → Expr → List Stmt → Program → m.Activation → List m.Remaining → List m.Activation → Heap → Outcome m.Turn
unwrapping next line ty e body p a code below h =
    after (eval p (spot a.context [] line) h a.locals e 0) (λ v.
    m.action_turn p line a (map m.Run body ++ m.WrapAgain line ty (referent v) ∷ code) below (unwrap_object p (spot a.context [] line) (referent v) 0 (starting h a.locals (Fresh next)))
    )

-- a call with these arguments
abbrev pub calling : ℕ → ℕ → Receiver → Option CType → ℕ → List Expr → Program → m.Activation → List m.Remaining → List m.Activation → Heap → Outcome m.Turn
calling next line to c k es p a code below h =
    after (m.received p to (spot a.context [] line) 0 (starting h a.locals (Fresh next))) (λ place.
    after (eval_all p (spot a.context [] line) h a.locals es 0) (λ args.
    m.call_turn p k (slice_get p.functions.items k) (spot a.context [] line) args c place a code below h
    )
    )

-- the caller goes on with this value
abbrev pub resuming : ℕ → Value → Program → m.Activation → List m.Remaining → List m.Activation → Heap → Outcome m.Turn
resuming line v p a code below h = m.resume p line v below h

-- the function gives this value
abbrev pub giving : ℕ → Value → Program → m.Activation → List m.Remaining → List m.Activation → Heap → Outcome m.Turn
giving line v p a code below h = m.return_turn p line v a below h

-- a `return` with this value, or none
abbrev pub returning : ℕ → Option Expr → Program → m.Activation → List m.Remaining → List m.Activation → Heap → Outcome m.Turn
returning line e p a code below h = after (m.value_of p (spot a.context [] line) e h a.locals 0) (λ v. m.return_turn p line v a below h)

-- a body's end
abbrev pub ending : ℕ → Program → m.Activation → List m.Remaining → List m.Activation → Heap → Outcome m.Turn
ending next p a code below h = m.turn_of p (Fresh next) [] a [] below h

-- the code comes to the turn that the item comes to, wherever it is taken
abbrev pub TurnsAs : Result Turn Stop → Here → (Program → m.Activation → List m.Remaining → List m.Activation → Heap → Outcome m.Turn) → Type 0
TurnsAs result here o = OnTurn here (λ p a code below h. TurnsTo result a code below h (o p a code below h))

-- the same, unless numbers run out, as they do at the item
abbrev pub TurnsAsOr : Result Turn Stop → Here → (Program → m.Activation → Heap → Type 0) → (Program → m.Activation → List m.Remaining → List m.Activation → Heap → Outcome m.Turn) → Type 0
TurnsAsOr result here runs_out o = OnTurn here (λ p a code below h. TurnsOr (runs_out p a h) result a code below h (o p a code below h))

-- the same, where these functions stand below
abbrev pub ReturnsAs : Result Turn Stop → Here → List Activation → (Program → m.Activation → List m.Remaining → List m.Activation → Heap → Outcome m.Turn) → Type 0
ReturnsAs result here cs o = OnReturn here cs (λ p a code below h. TurnsTo result a code below h (o p a code below h))

abbrev pub ReturnsAsOr : Result Turn Stop → Here → List Activation → (Program → m.Activation → Heap → Type 0) → (Program → m.Activation → List m.Remaining → List m.Activation → Heap → Outcome m.Turn) → Type 0
ReturnsAsOr result here cs runs_out o = OnReturn here cs (λ p a code below h. TurnsOr (runs_out p a h) result a code below h (o p a code below h))

-- the same of all functions of a thread
abbrev pub ThreadTurns : Result Turn Stop → Program → List Stored → ℕ → List Value → List Activation → Type 0
ThreadTurns result p heap next choices cs =
    (y : List Ref) → IsFinite (heap_at y heap) →
    (fs : List m.Activation) → AreFrames fs cs → TurnsAll (ThreadRunsOut p (Fresh next) choices fs (heap_at y heap)) result fs (heap_at y heap) (m.thread_turn p (Fresh next) choices fs (heap_at y heap))

abbrev pub place_given : Option Place → Option APlace
place_given None = None
place_given (Some place) = Some (place_of place)

-- the code has the place of a call's value, if it is wanted
abbrev pub IsReceived : Result (Option Place) Stop → Outcome (Option APlace) → Type 0
IsReceived result o = Comes result (λ place r. r ≡ Gives (place_given place)) o

-- the function that is called, behind the checks of its contract
abbrev pub entering : Program → Spot → ℕ → FunctionInfo → List Value → Heap → Outcome m.Activation
entering p at_ k f args h =
    check_specs at_ (clause_tests p f.requires_.items (call_scene at_.context.me h args)) 0 Requires (
    check_specs at_ (item_tests p (may_write at_) f.writes.items (call_scene at_.context.me h args)) 0 Writes (
    Gives (m.begin_with (Some f) (callee p k f at_.context.me h args))
    )
    )

abbrev pub IsEntered : List Ref → Result Activation Stop → Outcome m.Activation → Type 0
IsEntered y result o = Comes result (λ a r. r ≡ Gives (frame_at y a)) o

-- the code enters the function with these arguments, by a call of this line
abbrev pub Enters : Result Activation Stop → Here → ℕ → ℕ → FunctionInfo → List Value → Type 0
Enters result here line k f args =
    (x y : List Ref) → IsEntered y result (entering here.program.now (spot (context_at x here.context.now) [] line) k f args (heap_at y here.heap.now))

-- the store of a call's value, converted
abbrev pub storing : Program → Spot → Heap → List Value → ℕ → Place → Option CType → Value → Outcome AProgress
storing p at_ h l next place c v = after (convert_to at_ c v 0) (λ w. store p at_ (place_of place) w 0 (starting h l (Fresh next)))

-- the code has the place of a left side
abbrev pub HasPlace : Result Place Stop → Here → ℕ → Target → Type 0
HasPlace result here line target = OnValue here line (λ p s h l. IsPlace result (left_side p s target 0 (starting h l (Fresh here.next_thread))))

abbrev pub Receives : Result (Option Place) Stop → Here → ℕ → Receiver → Type 0
Receives result here line to = OnValue here line (λ p s h l. IsReceived result (m.received p to s 0 (starting h l (Fresh here.next_thread))))

abbrev pub IsStored : Result Progress Stop → Outcome AProgress → Type 0
IsStored result o = Comes result (λ g r. Lands (Follows g) r) o

-- the function that begins in this context, if it is there
abbrev pub Begins : Option FunctionInfo → Context → Activation → Type 0
Begins f x a = (y : List Ref) → frame_at y a ≡ m.begin_with f (context_at y x)
