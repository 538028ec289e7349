-- References by their two texts.
use Rattle.std.proofs.Common.{◌≡◌, ℕ, ◌^◌, List, Some, None, refl}
use Rattle.std.specs.Prelude.{◌-◌, if◌then◌else◌}
use Rattle.object_types.specs.References.{ref, is_reference}
use Rattle.decimal_text.specs.Reading.{natural_of}
use Rattle.schedule_format.specs.Reading.{reference_of}

pub typeless : (ty serial : List ℕ) → natural_of (2 ^ 32 - 1) ty ≡ None → reference_of ty serial ≡ None
typeless ty serial e = rw e refl

pub serialless : (ty serial : List ℕ) (t : ℕ) → natural_of (2 ^ 32 - 1) ty ≡ Some t → natural_of (2 ^ 32 - 1) serial ≡ None → reference_of ty serial ≡ None
serialless ty serial t e f = rw (e, f) refl

pub both : (ty serial : List ℕ) (t s : ℕ) → natural_of (2 ^ 32 - 1) ty ≡ Some t → natural_of (2 ^ 32 - 1) serial ≡ Some s → reference_of ty serial ≡ (if is_reference (ref t s) then Some (ref t s) else None)
both ty serial t s e f = rw (e, f) refl

pub ruleset references = (typeless, serialless, both)
