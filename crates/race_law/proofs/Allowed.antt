-- What a thread may access on a heap, of any object that stands there: what is open, as its owner; what is closed, by reading a field that doesn't change or inside an atomic block.
use Rattle.std.proofs.Common.{◌≡◌, ℕ, true, false, Some, ◌⊎◌}
use Rattle.object_types.specs.declared.references.Ref.{Ref}
use Rattle.object_types.specs.declared.records.Mode.TheVariants.{Freed}
use Rattle.object_types.specs.References.{same_ref}
use Rattle.object_types.specs.Heap.{Heap, is_open, is_closed}
use Rattle.method.specs.declared.program.Program.{Program}
use Rattle.method.specs.Tables.{is_volatile}
use Rattle.race_law.specs.Accesses.{Access}

-- a field that isn't volatile is read, or one that is is accessed atomically
abbrev pub Shares : Program → Access → Type 0
Shares p a =
    (f : ℕ) × (a.field ≡ Some f) × (((a.writes ≡ false) × (is_volatile p f ≡ false)) ⊎ ((a.atomic ≡ true) × (is_volatile p f ≡ true)))

pub record Allowed (p : Program) (me : Ref) (h : Heap) (a : Access) : Type 0 where
  pub own : is_open (h.get a.object).mode ≡ true → same_ref (h.get a.object).owner me ≡ true
  pub shares : is_closed (h.get a.object).mode ≡ true → Shares p a
  pub alive : (h.get a.object).mode ≡ Freed → ⊥
