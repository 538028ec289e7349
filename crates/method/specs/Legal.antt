-- What a step owes. From CAV 2010: a step is legal where it satisfies the invariants of the objects that it touches; the point of the method is that then it satisfies them all. Own: what counts as touched.
use Rattle.std.specs.Prelude.{◌≡◌, ℕ, ◌⊎◌}
use Rattle.object_types.specs.declared.references.Ref.{Ref}
use Rattle.method.specs.declared.program.Program.{Program}
use Rattle.object_types.specs.Heap.{Heap, closed_in, IsClosedIn, empty_heap}
use Rattle.method.specs.Invariants.{Inv}
use Rattle.method.specs.WellFormed.{KeepsApproved, WellFormed, WellFormedStep}

-- The content of o is the same, it is closed in both heaps or in none, and so are the counts and the approved fields of what it owns in either.
pub record Untouched (p : Program) (o : Ref) (h0 h1 : Heap) : Type 0 where
  pub count : (h1.get o).count ≡ (h0.get o).count
  pub owned : (h1.get o).owned ≡ (h0.get o).owned
  pub fields : (f : ℕ) → (h1.get o).fields f ≡ (h0.get o).fields f
  pub listed : (h1.get o).listed ≡ (h0.get o).listed
  pub shapes : (h1.get o).shapes ≡ (h0.get o).shapes
  pub closed : closed_in h1 o ≡ closed_in h0 o
  pub counts : (q : Ref) → ((h0.get q).owner ≡ o) ⊎ ((h1.get q).owner ≡ o) → (h1.get q).count ≡ (h0.get q).count
  pub approved : (q : Ref) → ((h0.get q).owner ≡ o) ⊎ ((h1.get q).owner ≡ o) → KeepsApproved p (h0.get q) (h1.get q)

abbrev pub Touched : Program → Ref → Heap → Heap → Type 0
Touched p o h0 h1 = ¬ Untouched p o h0 h1

-- the invariant of each object that is touched, and closed before or after
pub record Legal (p : Program) (h0 h1 : Heap) : Type 0 where
  pub well_formed : WellFormedStep p h0 h1
  pub touched : (o : Ref) → IsClosedIn h0 o ⊎ IsClosedIn h1 o → Touched p o h0 h1 → Inv p o h0 h1

-- the invariant of each object that is closed before or after
pub record Kept (p : Program) (h0 h1 : Heap) : Type 0 where
  pub well_formed : WellFormedStep p h0 h1
  pub all : (o : Ref) → IsClosedIn h0 o ⊎ IsClosedIn h1 o → Inv p o h0 h1

-- a well-formed heap in which the invariant of each closed object holds
pub record Good (p : Program) (h : Heap) : Type 0 where
  pub well_formed : WellFormed p h
  pub all : (o : Ref) → IsClosedIn h o → Inv p o h h

-- where there is nothing, nothing is owed
abbrev pub EmptyIsGood : Type 0
EmptyIsGood = (p : Program) → Good p empty_heap
