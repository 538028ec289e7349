-- The operators of arithmetic, from their tests.
use Rattle.std.proofs.Common.{◌≡◌, ℕ, ℤ, true, false, ◌&&◌, ◌+◌, refl}
use Rattle.int_ranges.specs.declared.ctype.CType.{CType}
use Rattle.int_ranges.specs.Ranges.{in_range}
use Rattle.object_types.specs.declared.values.Value.TheVariants.{Int}
use Rattle.object_types.specs.Values.{is_zero_int}
use Rattle.method.specs.declared.program.CheckKind.TheVariants.{Divide, Range}
use Rattle.method.specs.declared.program.Operator.{Operator}
use Rattle.method.specs.declared.program.Operator.TheVariants.{Plus, Minus, Times, Over, Modulo}
use Rattle.method.specs.SpecValue.{compute}
use Rattle.method.specs.Expressions.{Spot, Gives, Fault, arithmetic, divides, checked_result}

module _ (at_ : Spot) (ty : CType) (a b : ℤ) (n : ℕ) where
  pub lacks : (op : Operator) → (divides op && is_zero_int b) ≡ true → arithmetic at_ op ty a b n ≡ Fault n Divide at_.line
  lacks Plus h = absurd (cc)
  lacks Minus h = absurd (cc)
  lacks Times h = absurd (cc)
  lacks Over h = rw h refl
  lacks Modulo h = rw h refl

  pub leaves : (op : Operator) → (divides op && is_zero_int b) ≡ false → in_range ty (checked_result op a b) ≡ false → (m : ℕ) × (arithmetic at_ op ty a b n ≡ Fault m Range at_.line)
  leaves Plus h out = (n, rw out refl)
  leaves Minus h out = (n, rw out refl)
  leaves Times h out = (n, rw out refl)
  leaves Over h out = let o = rw h at out in (n + 1, rw (h, o) refl)
  leaves Modulo h out = let o = rw h at out in (n + 1, rw (h, o) refl)

  pub fits : (op : Operator) → (divides op && is_zero_int b) ≡ false → in_range ty (checked_result op a b) ≡ true → arithmetic at_ op ty a b n ≡ Gives (Int (compute op a b))
  fits Plus h out = rw out refl
  fits Minus h out = rw out refl
  fits Times h out = rw out refl
  fits Over h out = let o = rw h at out in rw (h, o) refl
  fits Modulo h out = let o = rw h at out in rw (h, o) refl
