-- Numbers by their parts: how many digits and letters stand first, and which number they are.
use Rattle.std.specs.Prelude.{◌≡◌, ℕ, ◌+◌, ◌<◌, ◌≤◌, Bool, true, false, Some, List, length, map, take, slice_index}
use Rattle.std.specs.Str.Parse.{digits_value}
use Rattle.int_ranges.specs.declared.ctype.CType.{CType}
use Rattle.c_syntax.specs.Numbers as n
use Rattle.c_syntax.specs.Numbers.{is_digit_of, is_hex_digit, is_letter, prefix, radix, lower, HasNoLeadingZero, IsSuffix, first_with, types_of}
use Rattle.vcc_lexer.specs.declared.numbers.Base.{Base}
use Rattle.vcc_lexer.specs.declared.numbers.Base.TheVariants.{Decimal, Hexadecimal}

abbrev pub base_of : Base → n.Base
base_of Decimal = n.Decimal
base_of Hexadecimal = n.Hexadecimal

-- `0x` and a hexadecimal digit
pub record BeginsHexadecimal (text : List ℕ) : Type 0 where
  pub zero : slice_index text 0 ≡ 48
  pub x : slice_index text 1 ≡ 120
  pub digit : is_hex_digit (slice_index text 2) ≡ true

-- Behind the base's prefix stand d digits, no more, and then l letters, no more.
pub record HasRuns (base : n.Base) (d l : ℕ) (text : List ℕ) : Type 0 where
  pub within : length (prefix base) + d + l ≤ length text
  pub digits : (k : ℕ) → k < d → is_digit_of base (slice_index text (length (prefix base) + k)) ≡ true
  pub digits_end : is_digit_of base (slice_index text (length (prefix base) + d)) ≡ false
  pub letters : (k : ℕ) → k < l → is_letter (slice_index text (length (prefix base) + d + k)) ≡ true
  pub letters_end : is_letter (slice_index text (length (prefix base) + d + l)) ≡ false

-- The text begins with a number in this base, of d digits and l letters; it is hexadecimal where it can be.
pub record HasCounts (base : n.Base) (d l : ℕ) (text : List ℕ) : Type 0 where
  pub runs : HasRuns base d l text
  pub some : 0 < d
  pub begins : take (length (prefix base)) text ≡ prefix base
  pub decimal : base ≡ n.Decimal → BeginsHexadecimal text → ⊥

-- The digits and letters, in this base, write a number of this value and type.
pub record Writes (base : n.Base) (digits letters : List ℕ) (value : ℕ) (ty : CType) : Type 0 where
  pub zero : HasNoLeadingZero base digits
  pub unsigned : Bool
  pub long : Bool
  pub suffix : IsSuffix (map lower letters) unsigned long
  pub is : value ≡ digits_value (radix base) digits
  pub type : first_with value (types_of base unsigned long) ≡ Some ty
