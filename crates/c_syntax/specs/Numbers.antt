-- How numbers are written, and which type each has. From ISO/IEC 9899 6.4.4.1; own: no octal numbers, and which suffixes there are.
use Rattle.std.specs.Prelude.{◌≡◌, ℕ, ◌+◌, ◌<◌, Bool, true, false, ◌&&◌, ◌||◌, nat_le, if◌then◌else◌, pos, int_le, List, [], ◌∷◌, ◌++◌, length, map, All, Option, Some, None, slice_index, codes}
use Rattle.std.specs.Str.Parse.{digits_value}
use Rattle.int_ranges.specs.declared.ctype.CType.{CType}
use Rattle.int_ranges.specs.declared.ctype.CType.TheVariants.{Int, Unsigned, LongLong, UnsignedLongLong}
use Rattle.int_ranges.specs.Ranges.{greatest_of}

abbrev pub is_between : ℕ → ℕ → ℕ → Bool
is_between least greatest b = nat_le least b && nat_le b greatest

abbrev pub is_digit : ℕ → Bool
is_digit b = is_between 48 57 b

abbrev pub is_letter : ℕ → Bool
is_letter b = is_between 97 122 b || is_between 65 90 b

abbrev pub is_hex_digit : ℕ → Bool
is_hex_digit b = is_digit b || is_between 97 102 b || is_between 65 70 b

-- a number is written with decimal digits, or with hexadecimal ones behind `0x`
pub data Base : Type 0 where
  Decimal : Base
  Hexadecimal : Base

abbrev pub radix : Base → ℕ
radix Decimal = 10
radix Hexadecimal = 16

abbrev pub prefix : Base → List ℕ
prefix Decimal = []
prefix Hexadecimal = codes "0x"

abbrev pub is_digit_of : Base → ℕ → Bool
is_digit_of Decimal b = is_digit b
is_digit_of Hexadecimal b = is_hex_digit b

-- The text has the shape of a number: digits, behind the prefix of their base, and the letters behind.
pub record HasShape (base : Base) (digits letters text : List ℕ) : Type 0 where
  pub whole : text ≡ prefix base ++ digits ++ letters
  pub some : 0 < length digits
  pub all_digits : All (λ b. is_digit_of base b ≡ true) digits
  pub all_letters : All (λ b. is_letter b ≡ true) letters

abbrev pub lower : ℕ → ℕ
lower b = if is_between 65 90 b then b + 32 else b

-- IsSuffix letters unsigned long: the letters, in lower case, are a suffix, which asks for an unsigned type or not, and for one of 64 bits or not
pub data IsSuffix : List ℕ → Bool → Bool → Type 0 where
  none : IsSuffix (codes "") false false
  u : IsSuffix (codes "u") true false
  ll : IsSuffix (codes "ll") false true
  ull : IsSuffix (codes "ull") true true
  llu : IsSuffix (codes "llu") true true

-- types_of base unsigned long: the types that a number may have, the first that has its value being its own
abbrev pub types_of : Base → Bool → Bool → List CType
types_of base true true = UnsignedLongLong ∷ []
types_of base true false = Unsigned ∷ UnsignedLongLong ∷ []
types_of Decimal false true = LongLong ∷ []
types_of Decimal false false = Int ∷ LongLong ∷ []
types_of Hexadecimal false true = LongLong ∷ UnsignedLongLong ∷ []
types_of Hexadecimal false false = Int ∷ Unsigned ∷ LongLong ∷ UnsignedLongLong ∷ []

abbrev pub first_with : ℕ → List CType → Option CType
first_with value [] = None
first_with value (ty ∷ tys) = if int_le (pos value) (greatest_of ty) then Some ty else first_with value tys

-- a decimal number has no digit behind a leading 0
abbrev pub HasNoLeadingZero : Base → List ℕ → Type 0
HasNoLeadingZero Decimal digits = slice_index digits 0 ≡ 48 → length digits ≡ 1
HasNoLeadingZero Hexadecimal digits = Unit {0}

-- The text is a number with this value and type.
pub record IsNumber (text : List ℕ) (value : ℕ) (ty : CType) : Type 0 where
  pub base : Base
  pub digits : List ℕ
  pub letters : List ℕ
  pub shape : HasShape base digits letters text
  pub zero : HasNoLeadingZero base digits
  pub unsigned : Bool
  pub long : Bool
  pub suffix : IsSuffix (map lower letters) unsigned long
  pub is : value ≡ digits_value (radix base) digits
  pub type : first_with value (types_of base unsigned long) ≡ Some ty
