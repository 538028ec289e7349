-- The ring laws of whole numbers: the lemmas. Own.
use Rattle.std.proofs.Common.{◌≡◌, ◌≢◌, ◌⊎◌, inl, inr, zero, suc, ◌+◌, ◌*◌, ℤ, pos, negsuc, ◌+ℤ◌, ◌-ℤ◌, ◌*ℤ◌, neg_ℤ, arith, refl, ap, ◌∙◌}
use Rattle.std.proofs.lemmas.Int.{ints}
use borrow.Author.Differences.{up, down}

-- a product, in the two parts of its factors
mul_is : (b c : ℤ) → up (b *ℤ c) + (up b * down c + down b * up c) ≡ down (b *ℤ c) + (up b * up c + down b * down c)
mul_is b c = omega (arith, ints)

sum_is : (b c : ℤ) → up (b +ℤ c) + (down b + down c) ≡ down (b +ℤ c) + (up b + up c)
sum_is b c = omega (arith, ints)

diff_is : (b c : ℤ) → up (b -ℤ c) + (down b + up c) ≡ down (b -ℤ c) + (up b + down c)
diff_is b c = omega (arith, ints)

pub mul_comm : (a b : ℤ) → a *ℤ b ≡ b *ℤ a
mul_comm a b = omega (arith, ints)

pub mul_assoc : (a b c : ℤ) → (a *ℤ b) *ℤ c ≡ a *ℤ (b *ℤ c)
mul_assoc a b c = omega (arith, ints, ap (λ n. up c * n) (mul_is a b), ap (λ n. down c * n) (mul_is a b), ap (λ n. up a * n) (mul_is b c), ap (λ n. down a * n) (mul_is b c))

pub mul_sum : (a b c : ℤ) → a *ℤ (b +ℤ c) ≡ a *ℤ b +ℤ a *ℤ c
mul_sum a b c = omega (arith, ints, ap (λ n. up a * n) (sum_is b c), ap (λ n. down a * n) (sum_is b c))

pub sum_mul : (a b c : ℤ) → (a +ℤ b) *ℤ c ≡ a *ℤ c +ℤ b *ℤ c
sum_mul a b c = omega (arith, ints, ap (λ n. up c * n) (sum_is a b), ap (λ n. down c * n) (sum_is a b))

pub mul_diff : (a b c : ℤ) → a *ℤ (b -ℤ c) ≡ a *ℤ b -ℤ a *ℤ c
mul_diff a b c = omega (arith, ints, ap (λ n. up a * n) (diff_is b c), ap (λ n. down a * n) (diff_is b c))

pub diff_mul : (a b c : ℤ) → (a -ℤ b) *ℤ c ≡ a *ℤ c -ℤ b *ℤ c
diff_mul a b c = omega (arith, ints, ap (λ n. up c * n) (diff_is a b), ap (λ n. down c * n) (diff_is a b))

pub mul_zero : (a : ℤ) → a *ℤ pos 0 ≡ pos 0
mul_zero a = omega (arith, ints)

pub zero_mul : (a : ℤ) → pos 0 *ℤ a ≡ pos 0
zero_mul a = omega (arith, ints)

pub mul_one : (a : ℤ) → a *ℤ pos 1 ≡ a
mul_one a = omega (arith, ints)

pub one_mul : (a : ℤ) → pos 1 *ℤ a ≡ a
one_mul a = omega (arith, ints)

pub mul_negative : (a b : ℤ) → a *ℤ neg_ℤ b ≡ neg_ℤ (a *ℤ b)
mul_negative a b = omega (arith, ints, ap (λ n. up a * n) ((neg_parts b).0), ap (λ n. down a * n) ((neg_parts b).0), ap (λ n. up a * n) ((neg_parts b).1), ap (λ n. down a * n) ((neg_parts b).1))
  where
    neg_parts : (b : ℤ) → (up (neg_ℤ b) ≡ down b) × (down (neg_ℤ b) ≡ up b)
    neg_parts b = omega (arith, ints)

pub negative_mul : (a b : ℤ) → neg_ℤ a *ℤ b ≡ neg_ℤ (a *ℤ b)
negative_mul a b = mul_comm (neg_ℤ a) b ∙ mul_negative b a ∙ ap neg_ℤ (mul_comm b a)

-- a factor that is not 0 leaves 0 to the other
pub no_zero : (a b : ℤ) → a *ℤ b ≡ pos 0 → a ≢ pos 0 → b ≡ pos 0
no_zero a (pos zero) h k = refl
no_zero (pos zero) b h k = absurd (k refl)
no_zero (pos (suc n)) (pos (suc m)) h k = absurd (omega (arith, ints, h))
no_zero (negsuc n) (pos (suc m)) h k = absurd (omega (arith, ints, h))
no_zero (pos (suc n)) (negsuc m) h k = absurd (omega (arith, ints, h))
no_zero (negsuc n) (negsuc m) h k = absurd (omega (arith, ints, h))

pub zero_product : (a b : ℤ) → a *ℤ b ≡ pos 0 → (a ≡ pos 0) ⊎ (b ≡ pos 0)
zero_product (pos zero) b h = inl refl
zero_product (pos (suc n)) b h = inr (no_zero (pos (suc n)) b h (λ e. omega (arith, ints, e)))
zero_product (negsuc n) b h = inr (no_zero (negsuc n) b h (λ e. omega (arith, ints, e)))

-- a factor that is not 0 cancels
pub mul_cancel : (a b c : ℤ) → a ≢ pos 0 → a *ℤ b ≡ a *ℤ c → b ≡ c
mul_cancel a b c k h =
    let e : a *ℤ (b -ℤ c) ≡ pos 0 = mul_diff a b c ∙ ap (λ x. x -ℤ a *ℤ c) h ∙ itself (a *ℤ c) in
    let z = no_zero a (b -ℤ c) e k in
    omega (arith, ints, z)
  where
    itself : (x : ℤ) → x -ℤ x ≡ pos 0
    itself x = omega (arith, ints)
