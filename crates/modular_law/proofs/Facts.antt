-- What the proof knows of one step, and of values of their types.
use Rattle.std.specs.Prelude.{◌≡◌, ◌≢◌, ℕ, Bool, true, false, ◌||◌, List, [], ◌∷◌, Option, Some, None, slice_get, IsTrue, IsFalse}
use Rattle.object_types.specs.declared.references.Ref.{Ref}
use Rattle.method.specs.declared.program.DeclaredType.{DeclaredType}
use Rattle.method.specs.declared.program.Stmt.{Stmt}
use Rattle.method.specs.declared.program.Stmt.TheVariants.{Do, If', While', DoWhile', Unwrapping', Call, Return}
use Rattle.method.specs.declared.program.FunctionInfo.{FunctionInfo}
use Rattle.method.specs.declared.program.Program.{Program}
use Rattle.object_types.specs.References.{thread}
use Rattle.object_types.specs.Heap.{Heap, writable}
use Rattle.method.specs.WellFormed.{IsHeapOf}
use Rattle.method.specs.Legal.{Good, Legal}
use Rattle.method.specs.Rely.{Rely, Frame}
use Rattle.method.specs.Expressions.{Outcome, Context}
use Rattle.method.specs.Actions.{Supply}
use Rattle.method.specs.Machine.{Activation, State, Event, Turn, frames_of, thread_turn}
use Rattle.method.specs.MachineLaws.{has_thread}
use Rattle.method.specs.Typing.{returns_value, ends_with_return, WellTyped}
use Rattle.std.proofs.Common.{◌≡◌, ℕ, Bool, true, false, ◌||◌, List, [], ◌∷◌, Option, Some, None, refl, ap, slice_get}
use Rattle.modular_law.specs.Respect.{Unwritable}
use Rattle.std.proofs.lemmas.Bool.{or_left, or_right}
use Rattle.machine_laws.specs.Outcomes.{OnEnd}

-- A function with a value doesn't come to the end of its body.

abbrev pub is_return : Stmt → Bool
is_return (Do line a) = false
is_return (If' line in_ghost e m a n b) = false
is_return (While' line invs e m row) = false
is_return (DoWhile' line invs m row tested e) = false
is_return (Unwrapping' line ty q e m row) = false
is_return (Call line to c k es) = false
is_return (Return line e) = true

abbrev pub has_no_value : Option DeclaredType → Bool
has_no_value None = true
has_no_value (Some ty) = false

abbrev pub returns_last : FunctionInfo → List Stmt → Bool
returns_last f [] = has_no_value f.result
returns_last f (s ∷ ss) = is_return s || returns_last f ss

one_return : (s : Stmt) → ends_with_return (s ∷ []) ≡ true → is_return s ≡ true
one_return (Do line a) h = absurd (cc)
one_return (If' line in_ghost e m a n b) h = absurd (cc)
one_return (While' line invs e m row) h = absurd (cc)
one_return (DoWhile' line invs m row tested e) h = absurd (cc)
one_return (Unwrapping' line ty q e m row) h = absurd (cc)
one_return (Call line to c k es) h = absurd (cc)
one_return (Return line e) h = refl

no_value : (f : FunctionInfo) → f.result ≡ None → (ss : List Stmt) → returns_last f ss ≡ true
no_value f is [] = ap has_no_value is
no_value f is (s ∷ ss) = or_right (is_return s) (returns_last f ss) (no_value f is ss)

with_value : (f : FunctionInfo) (ss : List Stmt) → ends_with_return ss ≡ true → returns_last f ss ≡ true
with_value f [] h = absurd (cc)
with_value f (s ∷ []) h = or_left (is_return s) (returns_last f []) (one_return s h)
with_value f (s ∷ t ∷ ss) h = or_right (is_return s) (returns_last f (t ∷ ss)) (with_value f (t ∷ ss) h)

pub last_returns : (p : Program) → WellTyped p → (k : ℕ) (f : FunctionInfo) → slice_get p.functions.items k ≡ Some f → returns_last f f.body.items ≡ true
last_returns p wt k f is = by f.result refl (wt.returns k f is)
  where
    by : (r : Option DeclaredType) → f.result ≡ r → returns_value r f.body.items ≡ true → returns_last f f.body.items ≡ true
    by None e h = no_value f e f.body.items
    by (Some ty) e h = with_value f f.body.items h

-- A step.

-- what the turn of an event comes to
abbrev pub turn_at : Program → Supply → State → Event → Outcome Turn
turn_at p supply s e = thread_turn p supply e.choices (frames_of e.thread s.threads) s.heap

-- A step spares what the function on top behind it may not write: it is within each frame that may write no less, whatever its entry and its writes list.
abbrev pub Spares : Program → ℕ → Heap → Heap → Context → Type 0
Spares p t h k y = (e : Heap) (w : List Ref) → IsHeapOf p e → ((o : Ref) → IsFalse (writable (thread t) e w o) → Unwritable y o) → Frame p (thread t) h k e w

abbrev pub TopSpares : Program → ℕ → Heap → Heap → List Activation → Type 0
TopSpares p t h k [] = Unit {0}
TopSpares p t h k (a ∷ below) = Spares p t h k a.context

-- What is taken from elsewhere about one step, from one state.
pub record StepFacts (p : Program) (supply : Supply) (s : State) (e : Event) : Type 0 where
  pub legal : OnEnd (turn_at p supply s e).end (λ turn. Legal p s.heap turn.heap)
  pub relied : OnEnd (turn_at p supply s e).end (λ turn. Good p turn.heap → (t : ℕ) → t ≢ e.thread → IsTrue (has_thread t s.threads) → Rely p (thread t) s.heap turn.heap)
  pub framed : OnEnd (turn_at p supply s e).end (λ turn. Good p turn.heap → TopSpares p e.thread s.heap turn.heap turn.frames)
