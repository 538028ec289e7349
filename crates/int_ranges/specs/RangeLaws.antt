-- The ranges of the types, and the type to which two operands convert: the lemmas. Own.
use Rattle.std.proofs.Common.{◌≡◌, ℤ, pos, negsuc, ◌+ℤ◌, ◌-ℤ◌, ◌≤ℤ◌, FitsSigned, arith, refl}
use Rattle.std.specs.Int.{w128}
use Rattle.std.proofs.lemmas.Int.{ints}
use Rattle.int_ranges.specs.declared.ctype.CType.{CType}
use Rattle.int_ranges.specs.declared.ctype.CType.TheVariants.{Int, Unsigned, LongLong, UnsignedLongLong}
use Rattle.int_ranges.specs.Ranges.{least_of, greatest_of, InRange, usual_type}

pub least_at_most_greatest : (ty : CType) → least_of ty ≤ℤ greatest_of ty
least_at_most_greatest Int = omega (arith, ints)
least_at_most_greatest Unsigned = omega (arith, ints)
least_at_most_greatest LongLong = omega (arith, ints)
least_at_most_greatest UnsignedLongLong = omega (arith, ints)

pub int_in_long_long : (value : ℤ) → InRange Int value → InRange LongLong value
int_in_long_long value h = omega (arith, ints)

pub unsigned_in_long_long : (value : ℤ) → InRange Unsigned value → InRange LongLong value
unsigned_in_long_long value h = omega (arith, ints)

pub unsigned_in_unsigned_long_long : (value : ℤ) → InRange Unsigned value → InRange UnsignedLongLong value
unsigned_in_unsigned_long_long value h = omega (arith, ints)

pub fits_128 : (ty : CType) (value : ℤ) → InRange ty value → FitsSigned w128 value
fits_128 Int value h = omega (arith, ints)
fits_128 Unsigned value h = omega (arith, ints)
fits_128 LongLong value h = omega (arith, ints)
fits_128 UnsignedLongLong value h = omega (arith, ints)

pub usual_comm : (a b : CType) → usual_type a b ≡ usual_type b a
usual_comm Int Int = refl
usual_comm Int Unsigned = refl
usual_comm Int LongLong = refl
usual_comm Int UnsignedLongLong = refl
usual_comm Unsigned Int = refl
usual_comm Unsigned Unsigned = refl
usual_comm Unsigned LongLong = refl
usual_comm Unsigned UnsignedLongLong = refl
usual_comm LongLong Int = refl
usual_comm LongLong Unsigned = refl
usual_comm LongLong LongLong = refl
usual_comm LongLong UnsignedLongLong = refl
usual_comm UnsignedLongLong Int = refl
usual_comm UnsignedLongLong Unsigned = refl
usual_comm UnsignedLongLong LongLong = refl
usual_comm UnsignedLongLong UnsignedLongLong = refl

pub usual_idem : (a : CType) → usual_type a a ≡ a
usual_idem Int = refl
usual_idem Unsigned = refl
usual_idem LongLong = refl
usual_idem UnsignedLongLong = refl

pub usual_assoc : (a b c : CType) → usual_type (usual_type a b) c ≡ usual_type a (usual_type b c)
usual_assoc UnsignedLongLong b c = refl
usual_assoc LongLong UnsignedLongLong c = refl
usual_assoc LongLong LongLong UnsignedLongLong = refl
usual_assoc LongLong LongLong LongLong = refl
usual_assoc LongLong LongLong Unsigned = refl
usual_assoc LongLong LongLong Int = refl
usual_assoc LongLong Unsigned UnsignedLongLong = refl
usual_assoc LongLong Unsigned LongLong = refl
usual_assoc LongLong Unsigned Unsigned = refl
usual_assoc LongLong Unsigned Int = refl
usual_assoc LongLong Int UnsignedLongLong = refl
usual_assoc LongLong Int LongLong = refl
usual_assoc LongLong Int Unsigned = refl
usual_assoc LongLong Int Int = refl
usual_assoc Unsigned UnsignedLongLong c = refl
usual_assoc Unsigned LongLong UnsignedLongLong = refl
usual_assoc Unsigned LongLong LongLong = refl
usual_assoc Unsigned LongLong Unsigned = refl
usual_assoc Unsigned LongLong Int = refl
usual_assoc Unsigned Unsigned UnsignedLongLong = refl
usual_assoc Unsigned Unsigned LongLong = refl
usual_assoc Unsigned Unsigned Unsigned = refl
usual_assoc Unsigned Unsigned Int = refl
usual_assoc Unsigned Int c = refl
usual_assoc Int b c = refl

-- The common type reaches as far up as both operands' types.
pub usual_reaches : (a b : CType) → greatest_of a ≤ℤ greatest_of (usual_type a b)
usual_reaches Int Int = omega (arith, ints)
usual_reaches Int Unsigned = omega (arith, ints)
usual_reaches Int LongLong = omega (arith, ints)
usual_reaches Int UnsignedLongLong = omega (arith, ints)
usual_reaches Unsigned Int = omega (arith, ints)
usual_reaches Unsigned Unsigned = omega (arith, ints)
usual_reaches Unsigned LongLong = omega (arith, ints)
usual_reaches Unsigned UnsignedLongLong = omega (arith, ints)
usual_reaches LongLong UnsignedLongLong = omega (arith, ints)
usual_reaches LongLong Int = omega (arith, ints)
usual_reaches LongLong Unsigned = omega (arith, ints)
usual_reaches LongLong LongLong = omega (arith, ints)
usual_reaches UnsignedLongLong b = omega (arith, ints)

-- every type's range lies in that of the two widest
in_64 : (ty : CType) (value : ℤ) → InRange ty value → (negsuc 9223372036854775807 ≤ℤ value) × (value ≤ℤ pos 18446744073709551615)
in_64 Int value h = omega (arith, ints)
in_64 Unsigned value h = omega (arith, ints)
in_64 LongLong value h = omega (arith, ints)
in_64 UnsignedLongLong value h = omega (arith, ints)

pub sum_fits : (s t : CType) (a b : ℤ) → InRange s a → InRange t b → FitsSigned w128 (a +ℤ b)
sum_fits s t a b h k = let l = in_64 s a h in let m = in_64 t b k in omega (arith, ints, l, m)

pub difference_fits : (s t : CType) (a b : ℤ) → InRange s a → InRange t b → FitsSigned w128 (a -ℤ b)
difference_fits s t a b h k = let l = in_64 s a h in let m = in_64 t b k in omega (arith, ints, l, m)
