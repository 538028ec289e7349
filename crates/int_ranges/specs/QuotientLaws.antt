-- Quotient and remainder, rounded toward zero: the lemmas. Own.
use Rattle.std.proofs.Common.{◌≡◌, ◌≢◌, ◌⊎◌, inl, inr, ⊎_elim, ℕ, zero, suc, ◌-◌, ◌*◌, ◌/◌, ◌^◌, ◌<◌, ◌≤◌, ℤ, pos, negsuc, ◌+ℤ◌, ◌-ℤ◌, ◌*ℤ◌, ◌≤ℤ◌, ◌<ℤ◌, neg_ℤ, unsigned_abs, int_div, int_rem, FitsSigned, arith, refl, ap, sym, ◌∙◌, subst, div-mul-le_self, div-one, pow_pos}
use Rattle.std.proofs.lemmas.Int.{ints, quot-rem, rem_below, unsigned_abs-mul, quot_fits, fits_signed_from_abs}
use Rattle.std.proofs.lemmas.Bool.{cases_lt}
use lib.Signed.{mag_rem}
use mir.Syntax.{Width}
use mir.Val.{hbits}
use Rattle.int_ranges.specs.Ring.{diff_mul}
use Rattle.int_ranges.specs.Quotient.{IsQuotient, HaveOneSign}

pub div_mul_rem : (a b : ℤ) → int_div a b *ℤ b +ℤ int_rem a b ≡ a
div_mul_rem a b = quot-rem a b

abs_positive : (b : ℤ) → b ≢ pos 0 → 0 < unsigned_abs b
abs_positive (pos zero) h = absurd (h refl)
abs_positive (pos (suc n)) h = omega arith
abs_positive (negsuc n) h = omega arith

pub rem_nearer : (a b : ℤ) → b ≢ pos 0 → unsigned_abs (int_rem a b) < unsigned_abs b
rem_nearer a b h = rem_below a b (abs_positive b h)

pub rem_within_positive : (a b : ℤ) → pos 0 <ℤ b → (neg_ℤ b <ℤ int_rem a b) × (int_rem a b <ℤ b)
rem_within_positive a b h = let l = rem_nearer a b (λ e. omega (arith, ints, h, e)) in omega (arith, ints, l, h)

pub rem_within_negative : (a b : ℤ) → b <ℤ pos 0 → (b <ℤ int_rem a b) × (int_rem a b <ℤ neg_ℤ b)
rem_within_negative a b h = let l = rem_nearer a b (λ e. omega (arith, ints, h, e)) in omega (arith, ints, l, h)

pub rem_non_negative : (a b : ℤ) → pos 0 ≤ℤ a → pos 0 ≤ℤ int_rem a b
rem_non_negative (pos a) b h = omega (arith, ints)
rem_non_negative (negsuc a) b h = absurd (omega (arith, ints, h))

neg_pos : (n : ℕ) → neg_ℤ (pos n) ≤ℤ pos 0
neg_pos n = omega (arith, ints)

pub rem_non_positive : (a b : ℤ) → a ≤ℤ pos 0 → int_rem a b ≤ℤ pos 0
rem_non_positive (pos zero) b h = zero_rem b
  where
    zero_rem : (b : ℤ) → int_rem (pos 0) b ≤ℤ pos 0
    zero_rem b = omega (arith, ints)
rem_non_positive (pos (suc a)) b h = absurd (omega (arith, ints, h))
rem_non_positive (negsuc a) b h = neg_pos _

-- the remainder's sign, as `IsQuotient` says it
sign_up : (r : ℤ) → pos 0 ≤ℤ r → (r ≡ pos 0) ⊎ (pos 0 <ℤ r)
sign_up (pos zero) h = inl refl
sign_up (pos (suc n)) h = inr (omega (arith, ints))
sign_up (negsuc n) h = absurd (omega (arith, ints, h))

sign_down : (r : ℤ) → r ≤ℤ pos 0 → (r ≡ pos 0) ⊎ (r <ℤ pos 0)
sign_down (pos zero) h = inl refl
sign_down (pos (suc n)) h = absurd (omega (arith, ints, h))
sign_down (negsuc n) h = inr (omega (arith, ints))

sign_of : (a r : ℤ) → (pos 0 ≤ℤ a → pos 0 ≤ℤ r) → (a ≤ℤ pos 0 → r ≤ℤ pos 0) → (r ≡ pos 0) ⊎ HaveOneSign a r
sign_of (pos zero) r f g =
    let up : pos 0 ≤ℤ r = f (omega (arith, ints)) in
    let down : r ≤ℤ pos 0 = g (omega (arith, ints)) in
    inl (omega (arith, ints, up, down))
sign_of (pos (suc n)) r f g =
    let a_up : pos 0 <ℤ pos (suc n) = omega (arith, ints) in
    ⊎_elim inl (λ h. inr (inl (a_up, h))) (sign_up r (f (omega (arith, ints))))
sign_of (negsuc n) r f g =
    let a_down : negsuc n <ℤ pos 0 = omega (arith, ints) in
    ⊎_elim inl (λ h. inr (inr (a_down, h))) (sign_down r (g (omega (arith, ints))))

-- what `int_div` and `int_rem` give are the quotient and the remainder
pub quotient_is : (a b : ℤ) → b ≢ pos 0 → IsQuotient a b (int_div a b) (int_rem a b)
quotient_is a b h = record { whole = sym (div_mul_rem a b); below = rem_nearer a b h; sign = sign_of a (int_rem a b) (rem_non_negative a b) (rem_non_positive a b) }

-- a multiple that is nearer to 0 than its unit is 0
small_multiple : (x b : ℤ) → unsigned_abs (x *ℤ b) < unsigned_abs b → x ≡ pos 0
small_multiple x b h = zero_abs x (factor (unsigned_abs x) (unsigned_abs b) (subst (λ n. n < unsigned_abs b) (unsigned_abs-mul x b) h))
  where
    factor : (m n : ℕ) → m * n < n → m ≡ 0
    factor zero n h = refl
    factor (suc m) n h = absurd (omega (arith, h))

    zero_abs : (x : ℤ) → unsigned_abs x ≡ 0 → x ≡ pos 0
    zero_abs x e = omega (arith, ints, e)

-- two remainders of one number lie closer than the divisor
close : (a b r s : ℤ) → (r ≡ pos 0) ⊎ HaveOneSign a r → (s ≡ pos 0) ⊎ HaveOneSign a s → unsigned_abs r < unsigned_abs b → unsigned_abs s < unsigned_abs b → unsigned_abs (s -ℤ r) < unsigned_abs b
close a b r s h k u v = omega (arith, ints, h, k, u, v)

pub quotient_unique : (a b p r q s : ℤ) → IsQuotient a b p r → IsQuotient a b q s → (p ≡ q) × (r ≡ s)
quotient_unique a b p r q s m n =
    let e : (p -ℤ q) *ℤ b ≡ s -ℤ r = diff_mul p q b ∙ moved (p *ℤ b) (q *ℤ b) m.whole n.whole in
    let c = close a b r s m.sign n.sign m.below n.below in
    let z : p -ℤ q ≡ pos 0 = small_multiple (p -ℤ q) b (subst (λ x. unsigned_abs x < unsigned_abs b) (sym e) c) in
    let same : p ≡ q = difference p q z in
    (same, rest (p *ℤ b) (q *ℤ b) (ap (λ x. x *ℤ b) same) m.whole n.whole)
  where
    moved : (x y : ℤ) → a ≡ x +ℤ r → a ≡ y +ℤ s → x -ℤ y ≡ s -ℤ r
    moved x y h k = omega (arith, ints)

    difference : (x y : ℤ) → x -ℤ y ≡ pos 0 → x ≡ y
    difference x y h = omega (arith, ints)

    rest : (x y : ℤ) → x ≡ y → a ≡ x +ℤ r → a ≡ y +ℤ s → r ≡ s
    rest x y e h k = omega (arith, ints)

-- nothing is a quotient and a remainder by 0
pub divisor_not_zero : (a b q r : ℤ) → IsQuotient a b q r → b ≢ pos 0
divisor_not_zero a b q r m e = let l = m.below in omega (arith, ints, l, e)

-- the quotient and the remainder are those that `int_div` and `int_rem` give
pub quotient_only : (a b q r : ℤ) → IsQuotient a b q r → (q ≡ int_div a b) × (r ≡ int_rem a b)
quotient_only a b q r m = quotient_unique a b q r (int_div a b) (int_rem a b) m (quotient_is a b (divisor_not_zero a b q r m))

-- a multiple leaves 0, and its quotient is the other factor
pub quotient_of_multiple : (k b : ℤ) → b ≢ pos 0 → (int_div (k *ℤ b) b ≡ k) × (int_rem (k *ℤ b) b ≡ pos 0)
quotient_of_multiple k b h =
    let m : IsQuotient (k *ℤ b) b k (pos 0) = record { whole = nothing (k *ℤ b); below = abs_positive b h; sign = inl refl } in
    let both = quotient_only (k *ℤ b) b k (pos 0) m in
    (sym both.0, sym both.1)
  where
    nothing : (x : ℤ) → x ≡ x +ℤ pos 0
    nothing x = omega (arith, ints)

-- what leaves 0 is a multiple
pub exact_quotient : (a b : ℤ) → int_rem a b ≡ pos 0 → a ≡ int_div a b *ℤ b
exact_quotient a b h = let e = div_mul_rem a b in clear (int_div a b *ℤ b) (int_rem a b) e h
  where
    clear : (x r : ℤ) → x +ℤ r ≡ a → r ≡ pos 0 → a ≡ x
    clear x r e h = omega (arith, ints)

-- the fraction is discarded: the quotient's distance from 0 is that of the two distances
pub quotient_toward_zero : (a b : ℤ) → unsigned_abs (int_div a b) ≡ unsigned_abs a / unsigned_abs b
quotient_toward_zero (pos a) (pos b) = refl
quotient_toward_zero (pos a) (negsuc b) = abs_neg _
  where
    abs_neg : (n : ℕ) → unsigned_abs (neg_ℤ (pos n)) ≡ n
    abs_neg n = omega (arith, ints)
quotient_toward_zero (negsuc a) (pos b) = abs_neg _
  where
    abs_neg : (n : ℕ) → unsigned_abs (neg_ℤ (pos n)) ≡ n
    abs_neg n = omega (arith, ints)
quotient_toward_zero (negsuc a) (negsuc b) = refl

abs_fits : (w : Width) (a : ℤ) → FitsSigned w a → unsigned_abs a ≤ 2 ^ hbits w
abs_fits w (pos n) f = omega (arith, f.sfits)
abs_fits w (negsuc n) f = f.sfits

halved : (n b m : ℕ) → 0 < m → n ≤ m → n / suc (suc b) < m
halved n b m p h = let l = div-mul-le_self n (suc (suc b)) in omega (arith, l)

-- no divisor but -1 makes a quotient that leaves the width
pub quotient_fits : (w : Width) (a b : ℤ) → FitsSigned w a → b ≢ pos 0 → b ≢ negsuc 0 → FitsSigned w (int_div a b)
quotient_fits w a (pos zero) f h k = absurd (h refl)
quotient_fits w a (pos (suc b)) f h k = quot_fits w a (pos (suc b)) f (omega (arith, ints))
quotient_fits w a (negsuc zero) f h k = absurd (k refl)
quotient_fits w a (negsuc (suc b)) f h k =
    let l = halved (unsigned_abs a) b (2 ^ hbits w) (pow_pos (hbits w)) (abs_fits w a f) in
    fits_signed_from_abs w (int_div a (negsuc (suc b))) (subst (λ n. n < 2 ^ hbits w) (sym (quotient_toward_zero a (negsuc (suc b)))) l)

pub remainder_fits : (w : Width) (a b : ℤ) → FitsSigned w a → FitsSigned w (int_rem a b)
remainder_fits w a b f = record { sfits = omega (arith, mag_rem a b, f.sfits) }

by_minus_one : (w : Width) (a : ℤ) → FitsSigned w a → (FitsSigned w (int_div a (negsuc 0)) → ⊥) → a ≡ negsuc (2 ^ hbits w - 1)
by_minus_one w (pos n) f h = absurd (h (quotient_down n f.sfits))
  where
    quotient_down : (n : ℕ) → n < 2 ^ hbits w → FitsSigned w (int_div (pos n) (negsuc 0))
    quotient_down n l = fits_signed_from_abs w (int_div (pos n) (negsuc 0)) (subst (λ m. m < 2 ^ hbits w) (sym (quotient_toward_zero (pos n) (negsuc 0))) (omega (arith, l, div-one n)))
by_minus_one w (negsuc n) f h = ⊎_elim (λ l. absurd (h (quotient_up n l))) (λ l. ap negsuc (omega (arith, l, f.sfits))) (cases_lt (suc n) (2 ^ hbits w))
  where
    quotient_up : (n : ℕ) → suc n < 2 ^ hbits w → FitsSigned w (int_div (negsuc n) (negsuc 0))
    quotient_up n l = fits_signed_from_abs w (int_div (negsuc n) (negsuc 0)) (subst (λ m. m < 2 ^ hbits w) (sym (quotient_toward_zero (negsuc n) (negsuc 0))) (omega (arith, l, div-one (suc n))))

-- the one quotient that leaves is that of the least number by -1
pub least_leaves_only : (w : Width) (a b : ℤ) → FitsSigned w a → b ≢ pos 0 → (FitsSigned w (int_div a b) → ⊥) → (a ≡ negsuc (2 ^ hbits w - 1)) × (b ≡ negsuc 0)
least_leaves_only w a (pos zero) f h k = absurd (h refl)
least_leaves_only w a (pos (suc b)) f h k = absurd (k (quot_fits w a (pos (suc b)) f (omega (arith, ints))))
least_leaves_only w a (negsuc zero) f h k = (by_minus_one w a f k, refl)
least_leaves_only w a (negsuc (suc b)) f h k = absurd (k (quotient_fits w a (negsuc (suc b)) f h (λ e. omega (arith, ints, e))))
