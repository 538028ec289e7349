-- The integer types and their ranges. From ISO/IEC 9899 6.2.5 and 6.3.1.8. Own: 32 and 64 bits.
use Rattle.std.specs.Prelude.{Bool, ◌&&◌, ℤ, pos, negsuc, ◌≤ℤ◌, int_le}
use Rattle.int_ranges.specs.declared.ctype.CType.{CType}
use Rattle.int_ranges.specs.declared.ctype.CType.TheVariants.{Int, Unsigned, LongLong, UnsignedLongLong}

abbrev pub least_of : CType → ℤ
least_of Int = negsuc 2147483647
least_of Unsigned = pos 0
least_of LongLong = negsuc 9223372036854775807
least_of UnsignedLongLong = pos 0

abbrev pub greatest_of : CType → ℤ
greatest_of Int = pos 2147483647
greatest_of Unsigned = pos 4294967295
greatest_of LongLong = pos 9223372036854775807
greatest_of UnsignedLongLong = pos 18446744073709551615

-- the type has the value
abbrev pub InRange : CType → ℤ → Type 0
InRange ty value = (least_of ty ≤ℤ value) × (value ≤ℤ greatest_of ty)

-- the same as a test
abbrev pub in_range : CType → ℤ → Bool
in_range ty value = int_le (least_of ty) value && int_le value (greatest_of ty)

-- The usual arithmetic conversions: any with `unsigned long long` gives that, otherwise any with `long long` that, otherwise any with `unsigned` that.
abbrev pub usual_type : CType → CType → CType
usual_type UnsignedLongLong b = UnsignedLongLong
usual_type LongLong UnsignedLongLong = UnsignedLongLong
usual_type LongLong b = LongLong
usual_type Unsigned Int = Unsigned
usual_type Unsigned b = b
usual_type Int b = b
