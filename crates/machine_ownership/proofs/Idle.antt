-- The least thread that owns nothing, found within as many tries as the support has references, and one. Each thread that is passed over owns one at least, and no two own the same.
use Rattle.std.proofs.Common.{◌≡◌, ℕ, zero, suc, ◌+◌, ◌<◌, ◌≤◌, Bool, true, false, cond, ◌-◌, ◌||◌, List, [], ◌∷◌, length, refl, sym, ap, subst, ◌∙◌, arith}
use Rattle.std.proofs.lemmas.Bool.{not-false, false_from_ne_true}
use Rattle.object_types.specs.declared.references.Ref.{Ref}
use Rattle.object_types.specs.References.{thread, same_ref}
use Rattle.object_types.specs.Sets.{some}
use Rattle.object_types.specs.Heap.{Heap, is_idle, idle_from}
use Rattle.object_types.proofs.Orders.{ref_order}

module _ (owner : Ref → Ref) where
  abbrev hit : List Ref → ℕ → Bool
  hit xs k = some (λ o. same_ref (owner o) (thread k)) xs

  -- how many of m numbers from n on are those of threads that own one of these
  abbrev hits : List Ref → ℕ → ℕ → ℕ
  hits xs n zero = 0
  hits xs n (suc m) = cond (hit xs n) 1 0 + hits xs (n + 1) m

  away : (x : Ref) (xs : List Ref) (n m : ℕ) → ((k : ℕ) → n ≤ k → same_ref (owner x) (thread k) ≡ false) → hits (x ∷ xs) n m ≡ hits xs n m
  away x xs n zero h = refl
  away x xs n (suc m) h = λ i. cond (h n (omega arith) i || hit xs n) 1 0 + away x xs (n + 1) m (λ k l. h k (omega (arith, l))) i

  one_more : (x : Ref) (xs : List Ref) (n m : ℕ) → hits (x ∷ xs) n m ≤ suc (hits xs n m)
  one_more x xs n zero = omega arith
  one_more x xs n (suc m) = by_test (same_ref (owner x) (thread n)) refl (one_more x xs (n + 1) m)
    where
      apart : same_ref (owner x) (thread n) ≡ true → (k : ℕ) → n + 1 ≤ k → same_ref (owner x) (thread k) ≡ false
      apart e k l = false_from_ne_true (same_ref (owner x) (thread k)) (λ f. absurd (let same : n ≡ k = ap (λ (r : Ref). r.serial) (sym (ref_order.equal _ _ e) ∙ ref_order.equal _ _ f) in omega (arith, l, same)))

      by_test : (b : Bool) → same_ref (owner x) (thread n) ≡ b → hits (x ∷ xs) (n + 1) m ≤ suc (hits xs (n + 1) m) → cond (b || hit xs n) 1 0 + hits (x ∷ xs) (n + 1) m ≤ suc (cond (hit xs n) 1 0 + hits xs (n + 1) m)
      by_test true e more = let same = away x xs (n + 1) m (apart e) in omega (arith, same)
      by_test false e more = omega (arith, more)

  none_hit : (n m : ℕ) → hits [] n m ≡ 0
  none_hit n zero = refl
  none_hit n (suc m) = let rest = none_hit (n + 1) m in omega (arith, rest)

  few : (xs : List Ref) (n m : ℕ) → hits xs n m ≤ length xs
  few [] n m = let z = none_hit n m in omega (arith, z)
  few (x ∷ xs) n m = let a = one_more x xs n m in let b = few xs n m in omega (arith, a, b)

  all_hit : (xs : List Ref) (n m : ℕ) → ((k : ℕ) → n ≤ k → k < n + m → hit xs k ≡ true) → hits xs n m ≡ m
  all_hit xs n zero h = refl
  all_hit xs n (suc m) h =
      (λ i. cond (h n (omega arith) (omega arith) i) 1 0 + all_hit xs (n + 1) m (λ k l u. h k (omega (arith, l)) (omega (arith, u))) i)
      ∙ omega arith

found : (tries : ℕ) (h : Heap) (n m t : ℕ) → t ≡ n + m → m < tries → ((k : ℕ) → n ≤ k → k < t → is_idle h k ≡ false) → is_idle h t ≡ true → idle_from tries h n ≡ t
found zero h n m t e l busy idle = absurd (omega (arith, l))
found (suc tries) h n zero t e l busy idle = let same : t ≡ n = omega (arith, e) in ap (λ b. cond b n (idle_from tries h (n + 1))) (subst (λ k. is_idle h k ≡ true) same idle) ∙ sym same
found (suc tries) h n (suc m) t e l busy idle =
    ap (λ b. cond b n (idle_from tries h (n + 1))) (busy n (omega arith) (omega (arith, e)))
    ∙ found tries h (n + 1) m t (omega (arith, e)) (omega (arith, l)) (λ k a b. busy k (omega (arith, a)) b) idle

-- the least that owns nothing is the one that the definition finds
pub least_idle : (h : Heap) (n t : ℕ) → n ≤ t → ((k : ℕ) → n ≤ k → k < t → is_idle h k ≡ false) → is_idle h t ≡ true → idle_from (suc (length h.support)) h n ≡ t
least_idle h n t low busy idle =
    let owner : Ref → Ref = λ o. (h.get o).owner in
    let m = t - n in
    let all = all_hit owner h.support n m (λ k l u. not-false (hit owner h.support k) (busy k l (omega (arith, u, low)))) in
    let most = few owner h.support n m in
    found (suc (length h.support)) h n m t (omega (arith, low)) (omega (arith, all, most)) busy idle
