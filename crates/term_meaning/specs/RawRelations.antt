-- The relations of the method, of raw heaps. From CAV 2010 and the VCC manual: what they say of heaps is in `method`. Own: of a raw heap that is no heap of the program, well-formed, good, legal, kept, rely and frame are false; touched, the stable set and idleness are read from the columns.
use Rattle.std.specs.Prelude.{◌≡◌, ◌≢◌, ◌⊎◌, Bool, List, IsTrue, IsFalse, ℕ}
use Rattle.object_types.specs.declared.references.Ref.{Ref}
use Rattle.object_types.specs.declared.values.Value.TheVariants.{Ref as Refers}
use Rattle.object_types.specs.References.{is_claim}
use Rattle.object_types.specs.Sets.{is_in}
use Rattle.object_types.specs.Heap.{Heap}
use Rattle.method.specs.declared.program.Program.{Program}
use Rattle.method.specs.Tables.{has_volatile_owns, is_approved}
use Rattle.method.specs.WellFormed.{WellFormed}
use Rattle.method.specs.Legal.{Legal, Kept, Good}
use Rattle.method.specs.Rely.{Rely, Frame}
use Rattle.term_meaning.specs.RawHeaps.{RawHeap, Place, ModeAt, OwnerAt, Shows, owner_at, count_at, owns, lists, closed, FieldAt}

-- x is a well-formed heap: what the atom `sys` says
abbrev pub IsSys : Program → RawHeap → Type 0
IsSys p x = (h : Heap) × Shows p h x × WellFormed p h

-- x is a good heap
abbrev pub IsGood : Program → RawHeap → Type 0
IsGood p x = (h : Heap) × Shows p h x × Good p h

-- from x to y is a legal step
abbrev pub IsLegal : Program → RawHeap → RawHeap → Type 0
IsLegal p x y = (h k : Heap) × Shows p h x × Shows p k y × Legal p h k

-- from x to y is a kept step
abbrev pub IsKept : Program → RawHeap → RawHeap → Type 0
IsKept p x y = (h k : Heap) × Shows p h x × Shows p k y × Kept p h k

-- t may rely on the step from x to y
abbrev pub IsRely : Program → Ref → RawHeap → RawHeap → Type 0
IsRely p t x y = (h k : Heap) × Shows p h x × Shows p k y × Rely p t h k

-- the step from x to y is within the frame of t, whose function was entered in z and may write w
abbrev pub IsFrame : Program → Ref → RawHeap → RawHeap → RawHeap → List Ref → Type 0
IsFrame p t x y z w = (h k e : Heap) × Shows p h x × Shows p k y × Shows p e z × Frame p t h k e w

-- a place of the content: the count, the sets, fields and shapes, so all but mode and owner
abbrev pub is_content : Place → Bool
is_content ModeAt = Bool.false
is_content OwnerAt = Bool.false
is_content c = Bool.true

-- The content of o is the same, it is closed in both heaps or in none, and so are the counts and the approved fields of what it owns in either.
pub record IsUntouched (p : Program) (o : Ref) (x y : RawHeap) : Type 0 where
  pub content : (c : Place) → IsTrue (is_content c) → y c o ≡ x c o
  pub status : closed y o ≡ closed x o
  pub counts : (q : Ref) → (owner_at x q ≡ Refers o) ⊎ (owner_at y q ≡ Refers o) → count_at y q ≡ count_at x q
  pub approved : (q : Ref) → (owner_at x q ≡ Refers o) ⊎ (owner_at y q ≡ Refers o) → (f : ℕ) → IsTrue (is_approved p f) → y (FieldAt f) q ≡ x (FieldAt f) q

-- the step touches o
abbrev pub IsTouched : Program → Ref → RawHeap → RawHeap → Type 0
IsTouched p o x y = ¬ IsUntouched p o x y

-- o is in the stable set of t in x, whose function was entered in z and may write w: the least set that holds the closed objects of t that t owned in z too and that aren't among w, what closed claims in it claim, and what its members without volatile_owns own.
pub data IsInStableSet (p : Program) (t : Ref) (x z : RawHeap) (w : List Ref) : Ref → Type 0 where
  root : {o : Ref} → IsTrue (closed x o) → owner_at x o ≡ Refers t → owner_at z o ≡ Refers t → IsFalse (is_in o w) → IsInStableSet p t x z w o
  claimed : {c o : Ref} → IsInStableSet p t x z w c → IsTrue (is_claim c) → IsTrue (closed x c) → IsTrue (lists x c o) → IsInStableSet p t x z w o
  member : {c o : Ref} → IsInStableSet p t x z w c → IsFalse (has_volatile_owns p c.ty) → IsTrue (owns x c o) → IsInStableSet p t x z w o

-- u owns nothing in x
abbrev pub IsIdle : Ref → RawHeap → Type 0
IsIdle u x = (q : Ref) → owner_at x q ≢ Refers u
