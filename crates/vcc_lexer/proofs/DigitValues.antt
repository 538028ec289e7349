-- The number that digits write.
use Rattle.std.proofs.Common.{◌≡◌, ℕ, ◌<◌, ◌≤◌, ◌*◌, ◌+◌, true, List, length, get_or, take, refl, ap, sym, ◌∙◌, arith}
use Rattle.std.proofs.lemmas.Int.Digits.{digits_value_more}
use Rattle.std.proofs.lemmas.Str.Parse.{digits_value-take-le}
use Rattle.std.proofs.lemmas.Bool.Decides.{nat_tests}
use Rattle.c_syntax.specs.Numbers.{Base, Decimal, Hexadecimal, radix, is_digit_of, is_hex_digit}
use Rattle.std.specs.Char.{digit_value}
use Rattle.std.specs.Str.Parse.{digits_value}

pub hex_digit : (base : Base) (b : ℕ) → is_digit_of base b ≡ true → is_hex_digit b ≡ true
hex_digit Decimal b h = grind (arith, nat_tests)
hex_digit Hexadecimal b h = h

pub one_more : (radix : ℕ) (digits : List ℕ) (i value digit : ℕ) → i < length digits → value ≡ digits_value radix (take i digits) → digit ≡ digit_value (get_or digits i 0) → digits_value radix (take (i + 1) digits) ≡ value * radix + digit
one_more radix digits i value digit lt is counts = digits_value_more radix digits i lt ∙ ap (λ v. v * radix + digit_value (get_or digits i 0)) (sym is) ∙ ap (λ d. value * radix + d) (sym counts)

some : (base : Base) → 1 ≤ radix base
some Decimal = omega arith
some Hexadecimal = omega arith

pub too_large : (base : Base) (digits : List ℕ) (i value by limit : ℕ) → i < length digits → value ≡ digits_value (radix base) (take i digits) → by ≡ radix base → limit ≤ value * by → limit ≤ digits_value (radix base) digits
too_large base digits i value by limit lt is e le =
    let grows = digits_value-take-le (radix base) digits (i + 1) (some base) in
    let one = one_more (radix base) digits i value (digit_value (get_or digits i 0)) lt is refl in
    let same : value * by ≡ value * radix base = ap (λ r. value * r) e in
    omega arith

pub too_large_sum : (base : Base) (digits : List ℕ) (i value product digit limit : ℕ) → i < length digits → value ≡ digits_value (radix base) (take i digits) → product ≡ value * radix base → digit ≡ digit_value (get_or digits i 0) → limit ≤ product + digit → limit ≤ digits_value (radix base) digits
too_large_sum base digits i value product digit limit lt is e counts le =
    let grows = digits_value-take-le (radix base) digits (i + 1) (some base) in
    let one = one_more (radix base) digits i value digit lt is counts in
    omega arith
