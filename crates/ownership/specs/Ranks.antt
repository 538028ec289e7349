-- The references that two words of 32 bits write, in order. Own.
use Rattle.std.specs.Prelude.{◌≡◌, ℕ, ◌+◌, ◌*◌, ◌<◌}
use Rattle.object_types.specs.declared.references.Ref.{Ref}

-- the place of a reference among them
abbrev pub rank : Ref → ℕ
rank r = 4294967296 * r.ty + r.serial

-- r comes next behind o
pub record IsNext (o r : Ref) : Type 0 where
  pub next : rank r ≡ rank o + 1
  pub serial : r.serial < 4294967296
  pub within : rank r < 18446744073709551616
