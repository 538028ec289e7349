-- What other threads may do as one thread sees it, and what all may do while a call or a loop runs. From the VCC manual: thread-modular verification, writes lists. Own: the exact conditions; they are rely conditions in the sense of rely and guarantee.
use Rattle.std.specs.Prelude.{◌≡◌, List, IsTrue, IsFalse, ◌≢◌}
use Rattle.object_types.specs.declared.references.Ref.{Ref}
use Rattle.method.specs.declared.program.Program.{Program}
use Rattle.object_types.specs.Heap.{Heap, mutable, wrapped, writable}
use Rattle.method.specs.WellFormed.{IsHeapOf, KeepsApproved, IsFixed}
use Rattle.method.specs.Legal.{Good}
use Rattle.method.specs.StableSet.{InStableSet, InFrameSet}

-- What other threads may do to the heap, as thread t sees it.
pub record Rely (p : Program) (t : Ref) (h k : Heap) : Type 0 where
  pub before : Good p h
  pub after : Good p k
  pub own_open : (o : Ref) → IsTrue (mutable t h o) → k.get o ≡ h.get o
  pub own_closed : (o : Ref) → IsTrue (wrapped t h o) → IsTrue (wrapped t k o) × ((k.get o).count ≡ (h.get o).count) × KeepsApproved p (h.get o) (k.get o)
  pub stable : (o : Ref) → InStableSet p t h o → IsFixed p o h k × InStableSet p t k o
  pub foreign : (o : Ref) → (h.get o).owner ≢ t → (k.get o).owner ≢ t

-- What all threads together may do to it, where t writes only w and what it did not own in e.
pub record Frame (p : Program) (t : Ref) (h k e : Heap) (w : List Ref) : Type 0 where
  pub before : IsHeapOf p h
  pub entry : IsHeapOf p e
  pub after : Good p k
  pub own_open : (o : Ref) → IsTrue (mutable t h o) → IsFalse (writable t e w o) → k.get o ≡ h.get o
  pub own_closed : (o : Ref) → IsTrue (wrapped t h o) → IsFalse (writable t e w o) → IsTrue (wrapped t k o) × ((k.get o).count ≡ (h.get o).count) × KeepsApproved p (h.get o) (k.get o)
  pub stable : (o : Ref) → InFrameSet p t h e w o → IsFixed p o h k × InFrameSet p t k e w o

-- what others may do in turn, they may do at once
abbrev pub RelyComposes : Type 0
RelyComposes = (p : Program) (t : Ref) (h k j : Heap) → Rely p t h k → Rely p t k j → Rely p t h j

-- others may do nothing
abbrev pub RelyRests : Type 0
RelyRests = (p : Program) (t : Ref) (h : Heap) → Good p h → Rely p t h h

-- the same of a frame, from one entry and with one writes list
abbrev pub FrameComposes : Type 0
FrameComposes = (p : Program) (t : Ref) (h k j e : Heap) (w : List Ref) → Frame p t h k e w → Frame p t k j e w → Frame p t h j e w
