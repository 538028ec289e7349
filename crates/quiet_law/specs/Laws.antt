-- What a thread sees of what other threads do.
-- From the VCC manual: sequential code reads thread-local data, which other threads don't change. Own: the exact statements.
use Rattle.std.specs.Prelude.{◌≡◌, ◌↔◌, ℕ, List, IsTrue}
use Rattle.object_types.specs.declared.references.Ref.{Ref}
use Rattle.object_types.specs.declared.values.Value.{Value}
use Rattle.method.specs.declared.program.Expr.{Expr}
use Rattle.method.specs.declared.program.Program.{Program}
use Rattle.object_types.specs.Heap.{Heap, mutable}
use Rattle.method.specs.StableSet.{InStableSet}
use Rattle.method.specs.Rely.{Rely, Frame}
use Rattle.method.specs.Expressions.{Context, eval}
use Rattle.method.specs.Actions.{spot}

-- From h to k what thread t may read without a claim is the same: the same objects are mutable, with the same content, and the same are in its stable set.
pub record SameOwn (p : Program) (t : Ref) (h k : Heap) : Type 0 where
  pub mutable_same : (o : Ref) → mutable t k o ≡ mutable t h o
  pub content_same : (o : Ref) → IsTrue (mutable t h o) → k.get o ≡ h.get o
  pub stable_same : (o : Ref) → InStableSet p t h o ↔ InStableSet p t k o

-- What other threads do keeps it.
abbrev pub RelyKeepsOwn : Type 0
RelyKeepsOwn = (p : Program) (t : Ref) (h k : Heap) → Rely p t h k → SameOwn p t h k

-- What other threads do before a call or a loop may be part of its frame, of the same entry heap and writes list.
abbrev pub RelyThenFrame : Type 0
RelyThenFrame = (p : Program) (t : Ref) (h k j e : Heap) (w : List Ref) → Rely p t h k → Frame p t k j e w → Frame p t h j e w

-- Outside atomic blocks an expression passes the same checks, and has the same value, on both heaps.
abbrev pub ReadsAreQuiet : Type 0
ReadsAreQuiet =
    (p : Program) (x : Context) (h k : Heap) → Rely p x.me h k → (choices : List Value) (line : ℕ) (l : List Value) (e : Expr) (n : ℕ) →
    eval p (spot x choices line) k l e n ≡ eval p (spot x choices line) h l e n
