-- The test of a type's range, from both sides.
use Rattle.std.proofs.Common.{◌≡◌, ℤ, Bool, true, false, IsTrue, ◌↔◌, ◌≤ℤ◌, arith}
use Rattle.std.specs.Prelude.{int_le}
use Rattle.std.proofs.lemmas.Bool.{and_parts, and_from, false_from_ne_true, both_ways}
use Rattle.std.proofs.lemmas.Int.{ints}
use Rattle.int_ranges.specs.declared.ctype.CType.{CType}
use Rattle.int_ranges.specs.Exact.{Leaves}
use Rattle.int_ranges.specs.RangeLaws.{fits_128}
use Rattle.int_ranges.specs.Ranges.{InRange, in_range, least_of, greatest_of}

int_le_is : (a b : ℤ) → int_le a b ≡ true → a ≤ℤ b
int_le_is a b h = grind (arith, ints)

int_le_from : (a b : ℤ) → a ≤ℤ b → int_le a b ≡ true
int_le_from a b h = grind (arith, ints)

pub in_range_from : (ty : CType) (z : ℤ) → InRange ty z → in_range ty z ≡ true
in_range_from ty z r = and_from (int_le (least_of ty) z) (int_le z (greatest_of ty)) (int_le_from _ _ r.0) (int_le_from _ _ r.1)

pub in_range_is : (ty : CType) (z : ℤ) → in_range ty z ≡ true → InRange ty z
in_range_is ty z t = let b = and_parts (int_le (least_of ty) z) (int_le z (greatest_of ty)) t in (int_le_is _ _ b.0, int_le_is _ _ b.1)

pub range_true : (b : Bool) (ty : CType) (z : ℤ) → IsTrue b ↔ InRange ty z → b ≡ true → in_range ty z ≡ true
range_true b ty z h e = in_range_from ty z (h.0 e)

pub range_false : (b : Bool) (ty : CType) (z : ℤ) → IsTrue b ↔ InRange ty z → b ≡ false → in_range ty z ≡ false
range_false b ty z h e = false_from_ne_true (in_range ty z) (λ t. both_ways b e (h.1 (in_range_is ty z t)))

-- no type has what leaves 128 bits
pub leaves_range : (ty : CType) (z : ℤ) → Leaves z → in_range ty z ≡ false
leaves_range ty z out = false_from_ne_true (in_range ty z) (λ t. out (fits_128 ty z (in_range_is ty z t)))
