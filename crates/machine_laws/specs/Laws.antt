-- What a step of the machine that passes its checks does to the heap: laws beside those that method states in MachineLaws.
-- From CAV 2010: that legal steps keep every invariant. Own: the exact statements.
use Rattle.std.specs.Prelude.{List, IsTrue, IsFalse, pos, ◌<ℤ◌}
use Rattle.object_types.specs.declared.references.Ref.{Ref}
use Rattle.method.specs.declared.program.Program.{Program}
use Rattle.object_types.specs.References.{is_claim}
use Rattle.object_types.specs.Sets.{is_in}
use Rattle.object_types.specs.Content.{SameContent}
use Rattle.object_types.specs.Heap.{Heap, IsClosedIn, is_open, writable}
use Rattle.method.specs.Invariants.{Inv}
use Rattle.method.specs.Admissible.{Admissible}
use Rattle.method.specs.WellFormed.{IsHeapOf}
use Rattle.method.specs.Legal.{Good, Kept, Legal}
use Rattle.method.specs.Rely.{Rely, Frame}
use Rattle.method.specs.Machine.{State, Event, run, step, IsStart}
use Rattle.method.specs.MachineLaws.{Choice, step_any, run_with, OnNext}
use Rattle.method.specs.Typing.{WellTyped}

-- An object's invariant that holds over a step holds over one to any heap with the same content at each reference, whatever the modes and owners there:
-- it reads content alone. So an object that is opened keeps it.
abbrev pub UnwrapKeeps : Type 0
UnwrapKeeps =
    (p : Program) → WellTyped p → (o : Ref) (b h k : Heap) → ((q : Ref) → SameContent (k.get q) (h.get q)) → IsFalse (is_claim o) →
    Inv p o b h → Inv p o b k

-- A step that passes its checks is legal, also where each malloc and each claim takes any absent reference of its type.
abbrev pub AnyStepsAreLegal : Type 0
AnyStepsAreLegal =
    (p : Program) → WellTyped p → (s : State) → IsStart p s → Good p s.heap → (cs : List Choice) (c : Choice) →
    let s' = run_with p cs s in Good p s'.heap → OnNext (step_any p c s') (λ s2. Legal p s'.heap s2.heap)

-- A step of heaps that keeps every invariant, leaves a good heap, and opens no claimed object: what a safe program's steps are (IsFine of Machine).
pub record IsFineStep (p : Program) (h k : Heap) : Type 0 where
  pub kept : Kept p h k
  pub good : Good p k
  pub unopened : (o : Ref) → pos 0 <ℤ (h.get o).count → IsClosedIn h o → IsFalse (is_open (k.get o).mode)

-- With admissible types and stable claims every state of every run is good, and each step that passes its checks is fine.
-- So a program is safe where no check fails.
abbrev pub RunsStayGood : Type 0
RunsStayGood =
    (p : Program) → WellTyped p → Admissible p → (s : State) → IsStart p s → Good p s.heap → (events : List Event) (e : Event) →
    let s' = run p events s in Good p s'.heap × OnNext (step p s' e) (λ s2. IsFineStep p s'.heap s2.heap)

-- What other threads may do is within every frame, whatever its entry heap and its writes list.
abbrev pub RelyIsFrame : Type 0
RelyIsFrame = (p : Program) (t : Ref) (h k e : Heap) (w : List Ref) → IsHeapOf p e → Rely p t h k → Frame p t h k e w

-- What a callee does within its frame, from its entry h and with its writes list v, its caller does within its own, where the caller may write each item of v.
abbrev pub FrameNarrows : Type 0
FrameNarrows =
    (p : Program) (t : Ref) (h k e : Heap) (w v : List Ref) → IsHeapOf p e → ((q : Ref) → IsTrue (is_in q v) → IsTrue (writable t e w q)) →
    Frame p t h k h v → Frame p t h k e w
