-- The numbers of options.
use Rattle.std.proofs.Common.{◌≡◌, ℕ, ◌<◌, ◌≤◌, ◌^◌, List, Some, None, ap, ◌∙◌, arith}
use Rattle.decimal_text.specs.Reading.{natural_of}
use Rattle.decimal_text.proofs.Whole.{natural_of_takes, natural_of_again}
use Rattle.vcc_words.specs.Arguments.{IsNumber}

wide : (most : ℕ) → most < 2 ^ 32 → most < 10 ^ 63
wide most h = omega arith

read_again : (text : List ℕ) (least most n : ℕ) → most < 2 ^ 32 → IsNumber text least most n → natural_of most text ≡ Some n
read_again text least most n fits is = ap (natural_of most) is.0 ∙ natural_of_again most n (wide most fits) is.2

pub no_number : (text : List ℕ) (least most : ℕ) → most < 2 ^ 32 → natural_of most text ≡ None → (n : ℕ) → IsNumber text least most n → ⊥
no_number text least most fits e n is = let a = read_again text least most n fits is in cc

pub too_small : (text : List ℕ) (least most m : ℕ) → most < 2 ^ 32 → natural_of most text ≡ Some m → m < least → (n : ℕ) → IsNumber text least most n → ⊥
too_small text least most m fits e below n is =
    let a = read_again text least most n fits is in
    let same : m ≡ n = cc in
    omega (arith, is.1)

pub number : (text : List ℕ) (least most n : ℕ) → most < 2 ^ 32 → natural_of most text ≡ Some n → least ≤ n → IsNumber text least most n
number text least most n fits e least_ok =
    let t = natural_of_takes most text n (wide most fits) e in
    (t.0, least_ok, t.1)
