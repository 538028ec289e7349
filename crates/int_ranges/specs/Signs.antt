-- The order of whole numbers, and the signs of products: the lemmas. Own.
use Rattle.std.proofs.Common.{◌≡◌, ◌⊎◌, inl, inr, zero, suc, ℤ, pos, negsuc, ◌+ℤ◌, ◌-ℤ◌, ◌*ℤ◌, ◌≤ℤ◌, ◌<ℤ◌, arith, subst}
use Rattle.std.proofs.lemmas.Int.{ints, by_lt_z}
use Rattle.int_ranges.specs.Ring.{mul_comm, mul_diff}

pub antisym : (a b : ℤ) → a ≤ℤ b → b ≤ℤ a → a ≡ b
antisym a b h k = omega (arith, ints)

pub at_most_trans : (a b c : ℤ) → a ≤ℤ b → b ≤ℤ c → a ≤ℤ c
at_most_trans a b c h k = omega (arith, ints)

-- what is not at most b is b + 1 or more
pub not_at_most : (a b : ℤ) → (a ≤ℤ b → ⊥) → (b +ℤ pos 1) ≤ℤ a
not_at_most a b h = by_lt_z b a (λ l. omega (arith, ints, l)) (λ l. absurd (h l))

pub at_most_or_below : (a b : ℤ) → (a ≤ℤ b) ⊎ (b <ℤ a)
at_most_or_below a b = by_lt_z b a inr inl

pub mul_non_negatives : (a b : ℤ) → pos 0 ≤ℤ a → pos 0 ≤ℤ b → pos 0 ≤ℤ (a *ℤ b)
mul_non_negatives (pos a) (pos b) h k = omega (arith, ints)
mul_non_negatives (pos a) (negsuc b) h k = absurd (omega (arith, ints, k))
mul_non_negatives (negsuc a) b h k = absurd (omega (arith, ints, h))

pub mul_positives : (a b : ℤ) → pos 0 <ℤ a → pos 0 <ℤ b → pos 0 <ℤ (a *ℤ b)
mul_positives (pos (suc a)) (pos (suc b)) h k = omega (arith, ints)
mul_positives (pos zero) b h k = absurd (omega (arith, ints, h))
mul_positives (pos (suc a)) (pos zero) h k = absurd (omega (arith, ints, k))
mul_positives (pos (suc a)) (negsuc b) h k = absurd (omega (arith, ints, k))
mul_positives (negsuc a) b h k = absurd (omega (arith, ints, h))

pub mul_non_positives : (a b : ℤ) → a ≤ℤ pos 0 → b ≤ℤ pos 0 → pos 0 ≤ℤ (a *ℤ b)
mul_non_positives (pos zero) b h k = omega (arith, ints)
mul_non_positives (pos (suc a)) b h k = absurd (omega (arith, ints, h))
mul_non_positives (negsuc a) (pos zero) h k = omega (arith, ints)
mul_non_positives (negsuc a) (pos (suc b)) h k = absurd (omega (arith, ints, k))
mul_non_positives (negsuc a) (negsuc b) h k = omega (arith, ints)

pub mul_unlike : (a b : ℤ) → pos 0 ≤ℤ a → b ≤ℤ pos 0 → (a *ℤ b) ≤ℤ pos 0
mul_unlike (pos a) (pos zero) h k = omega (arith, ints)
mul_unlike (pos a) (pos (suc b)) h k = absurd (omega (arith, ints, k))
mul_unlike (pos a) (negsuc b) h k = omega (arith, ints)
mul_unlike (negsuc a) b h k = absurd (omega (arith, ints, h))

pub mul_unlike_turned : (a b : ℤ) → a ≤ℤ pos 0 → pos 0 ≤ℤ b → (a *ℤ b) ≤ℤ pos 0
mul_unlike_turned a b h k = subst (λ x. x ≤ℤ pos 0) (mul_comm b a) (mul_unlike b a k h)

pub mul_at_most : (a b c : ℤ) → pos 0 ≤ℤ c → a ≤ℤ b → (c *ℤ a) ≤ℤ (c *ℤ b)
mul_at_most a b c h k =
    let d : pos 0 ≤ℤ (b -ℤ a) = omega (arith, ints) in
    let p : pos 0 ≤ℤ (c *ℤ b -ℤ c *ℤ a) = subst (λ x. pos 0 ≤ℤ x) (mul_diff c b a) (mul_non_negatives c (b -ℤ a) h d) in
    apart (c *ℤ a) (c *ℤ b) p
  where
    apart : (x y : ℤ) → pos 0 ≤ℤ (y -ℤ x) → x ≤ℤ y
    apart x y p = omega (arith, ints)

pub at_most_mul : (a b c : ℤ) → pos 0 ≤ℤ c → a ≤ℤ b → (a *ℤ c) ≤ℤ (b *ℤ c)
at_most_mul a b c h k = subst (λ x. x ≤ℤ (b *ℤ c)) (mul_comm c a) (subst (λ x. (c *ℤ a) ≤ℤ x) (mul_comm c b) (mul_at_most a b c h k))

-- a factor at most 0 turns the order
pub mul_turns : (a b c : ℤ) → c ≤ℤ pos 0 → a ≤ℤ b → (c *ℤ b) ≤ℤ (c *ℤ a)
mul_turns a b c h k =
    let d : pos 0 ≤ℤ (b -ℤ a) = omega (arith, ints) in
    let p : (c *ℤ b -ℤ c *ℤ a) ≤ℤ pos 0 = subst (λ x. x ≤ℤ pos 0) (mul_diff c b a) (mul_unlike_turned c (b -ℤ a) h d) in
    apart (c *ℤ b) (c *ℤ a) p
  where
    apart : (x y : ℤ) → (x -ℤ y) ≤ℤ pos 0 → x ≤ℤ y
    apart x y p = omega (arith, ints)
