-- Increasing lists of numbers, and the first number that isn't in one.
use Rattle.std.proofs.Common.{◌≡◌, ℕ, zero, suc, ◌+◌, ◌-◌, ◌<◌, ◌≤◌, ◌==◌, Bool, true, false, cond, ◌||◌, nat_lt, if◌then◌else◌, ⊎_elim, List, [], ◌∷◌, length, refl, sym, ap, ◌∙◌, subst, arith}
use Rattle.std.proofs.lemmas.Bool.{eqb-true, eqb-false, eq-eqb, ltb-true, ltb-false, cases_order, false_from_ne_true, or_cases, or_left}
use Rattle.machine_laws.proofs.Typed.{not_both}
use Rattle.plain_machine.specs.PlainSteps.{number_in, first_free}
use Rattle.plain_machine.specs.Erasure.{enter}

pub strictly : (j n : ℕ) → j ≤ n → (j ≡ n → ⊥) → j < n
strictly j n l ne = ⊎_elim (λ s. absurd (ne s)) (λ o. ⊎_elim (λ g. g) (λ g. absurd (omega (arith, l, g))) o) (cases_order j n)

or_swap : (a b c : Bool) → a || (b || c) ≡ b || (a || c)
or_swap true true c = refl
or_swap true false c = refl
or_swap false true c = refl
or_swap false false c = refl

or_again : (a b : Bool) → a || b ≡ a || (a || b)
or_again true b = refl
or_again false b = refl

-- what is entered is in the list, and what was in it
pub number_enter : (n k : ℕ) (ks : List ℕ) → number_in n (enter k ks) ≡ (k == n) || number_in n ks
number_enter n k [] = refl
number_enter n k (j ∷ js) = by (nat_lt k j) (j == k) refl (number_enter n k js)
  where
    by : (b c : Bool) → (j == k) ≡ c → number_in n (enter k js) ≡ (k == n) || number_in n js →
        number_in n (if b then k ∷ j ∷ js else if c then j ∷ js else j ∷ enter k js) ≡ (k == n) || ((j == n) || number_in n js)
    by true c e more = refl
    by false true e more = subst (λ m. (j == n) || number_in n js ≡ (m == n) || ((j == n) || number_in n js)) (eqb-true j k e) (or_again (j == n) (number_in n js))
    by false false e more = ap (λ b. (j == n) || b) more ∙ or_swap (j == n) (k == n) (number_in n js)

-- each number of the list is above those before it and above this one
abbrev pub Above : ℕ → List ℕ → Type 0
Above m [] = Unit {0}
Above m (k ∷ ks) = (m < k) × Above k ks

abbrev pub Increasing : List ℕ → Type 0
Increasing [] = Unit {0}
Increasing (k ∷ ks) = Above k ks

increasing : (k : ℕ) (ks : List ℕ) → Above k ks → Increasing ks
increasing k [] a = tt
increasing k (j ∷ js) a = a.1

enter_above : (m n : ℕ) (ks : List ℕ) → m < n → Above m ks → Above m (enter n ks)
enter_above m n [] l a = (l, tt)
enter_above m n (j ∷ js) l a = by (nat_lt n j) refl (j == n) refl (λ d. enter_above j n js d a.1)
  where
    by : (b : Bool) → nat_lt n j ≡ b → (c : Bool) → (j == n) ≡ c → (j < n → Above j (enter n js)) → Above m (if b then n ∷ j ∷ js else if c then j ∷ js else j ∷ enter n js)
    by true e c d more = (l, (ltb-true n j e, a.1))
    by false e true d more = a
    by false e false d more = (a.0, more (strictly j n (ltb-false n j e) (eqb-false j n d)))

pub enter_increasing : (n : ℕ) (ks : List ℕ) → Increasing ks → Increasing (enter n ks)
enter_increasing n [] a = tt
enter_increasing n (j ∷ js) a = by (nat_lt n j) refl (j == n) refl (λ d. enter_above j n js d a)
  where
    by : (b : Bool) → nat_lt n j ≡ b → (c : Bool) → (j == n) ≡ c → (j < n → Above j (enter n js)) → Increasing (if b then n ∷ j ∷ js else if c then j ∷ js else j ∷ enter n js)
    by true e c d more = (ltb-true n j e, a)
    by false e true d more = a
    by false e false d more = more (strictly j n (ltb-false n j e) (eqb-false j n d))

above_in : (m n : ℕ) (ks : List ℕ) → Above m ks → number_in n ks ≡ true → m < n
above_in m n [] a e = absurd (not_both false e refl)
above_in m n (k ∷ ks) a e = ⊎_elim
    (λ s. subst (λ j. m < j) (eqb-true k n s) a.0)
    (λ i. let low : m < k = a.0 in let high : k < n = above_in k n ks a.1 i in omega (arith, low, high))
    (or_cases (k == n) (number_in n ks) e)

-- the first of an increasing list is its least
least_in : (j n : ℕ) (js : List ℕ) → Above j js → number_in n (j ∷ js) ≡ true → j ≤ n
least_in j n js a e = ⊎_elim
    (λ s. let same : j ≡ n = eqb-true j n s in omega (arith, same))
    (λ i. let l : j < n = above_in j n js a i in omega (arith, l))
    (or_cases (j == n) (number_in n js) e)

head_in : (k : ℕ) (ks : List ℕ) → number_in k (k ∷ ks) ≡ true
head_in k ks = or_left (k == k) (number_in k ks) (eq-eqb k k refl)

not_below : (k n : ℕ) (ks : List ℕ) → Above k ks → k ≡ n → number_in n ks ≡ false
not_below k n ks a e = false_from_ne_true (number_in n ks) (λ i. let l : k < n = above_in k n ks a i in absurd (omega (arith, l, e)))

same_tails : (k j : ℕ) (ks js : List ℕ) → k ≡ j → Above k ks → Above j js → ((n : ℕ) → number_in n (k ∷ ks) ≡ number_in n (j ∷ js)) → (n : ℕ) → number_in n ks ≡ number_in n js
same_tails k j ks js first a b same n = by (k == n) refl
  where
    by : (t : Bool) → (k == n) ≡ t → number_in n ks ≡ number_in n js
    by true e = let here : k ≡ n = eqb-true k n e in not_below k n ks a here ∙ sym (not_below j n js b (sym first ∙ here))
    by false e = sym (ap (λ t. t || number_in n ks) e) ∙ same n ∙ ap (λ t. t || number_in n js) (subst (λ m. (m == n) ≡ false) first e)

-- two increasing lists with the same members are the same
pub same_numbers : (ks js : List ℕ) → Increasing ks → Increasing js → ((n : ℕ) → number_in n ks ≡ number_in n js) → ks ≡ js
same_numbers [] [] a b same = refl
same_numbers [] (j ∷ js) a b same = absurd (not_both (number_in j (j ∷ js)) (head_in j js) (sym (same j)))
same_numbers (k ∷ ks) [] a b same = absurd (not_both (number_in k (k ∷ ks)) (head_in k ks) (same k))
same_numbers (k ∷ ks) (j ∷ js) a b same =
    let low : j ≤ k = least_in j k js b (sym (same k) ∙ head_in k ks) in
    let high : k ≤ j = least_in k j ks a (same j ∙ head_in j js) in
    let first : k ≡ j = omega (arith, low, high) in
    let rest : ks ≡ js = same_numbers ks js (increasing k ks a) (increasing j js b) (same_tails k j ks js first a b same) in
    λ i. first i ∷ rest i

-- A list that has as many numbers as follow each other is as long.

many : (ks : List ℕ) (n m : ℕ) → Increasing ks → ((k : ℕ) → n ≤ k → k < n + m → number_in k ks ≡ true) → m ≤ length ks
many [] n zero a all = omega arith
many [] n (suc m) a all = absurd (not_both false (all n (omega arith) (omega arith)) refl)
many (j ∷ js) n zero a all = omega arith
many (j ∷ js) n (suc m) a all =
    let low : j ≤ n = least_in j n js a (all n (omega arith) (omega arith)) in
    let rest : m ≤ length js = many js (n + 1) m (increasing j js a) (λ k l u. later k low l (all k (omega (arith, l)) (omega (arith, u)))) in
    omega (arith, rest)
  where
    later : (k : ℕ) → j ≤ n → n + 1 ≤ k → number_in k (j ∷ js) ≡ true → number_in k js ≡ true
    later k low l e = ⊎_elim (λ s. let same : j ≡ k = eqb-true j k s in absurd (omega (arith, same, low, l))) (λ i. i) (or_cases (j == k) (number_in k js) e)

free_is : (tries : ℕ) (ks : List ℕ) (n m t : ℕ) → t ≡ n + m → m < tries → ((k : ℕ) → n ≤ k → k < t → number_in k ks ≡ true) → number_in t ks ≡ false → first_free tries ks n ≡ t
free_is zero ks n m t e l busy free = absurd (omega (arith, l))
free_is (suc tries) ks n zero t e l busy free =
    let same : t ≡ n = omega (arith, e) in
    ap (λ b. cond b (first_free tries ks (n + 1)) n) (subst (λ k. number_in k ks ≡ false) same free) ∙ sym same
free_is (suc tries) ks n (suc m) t e l busy free =
    ap (λ b. cond b (first_free tries ks (n + 1)) n) (busy n (omega arith) (omega (arith, e)))
    ∙ free_is tries ks (n + 1) m t (omega (arith, e)) (omega (arith, l)) (λ k a b. busy k (omega (arith, a)) b) free

-- the least number from n on that isn't in the list is the one that the definition gives
pub least_free : (ks : List ℕ) (n t : ℕ) → Increasing ks → n ≤ t → ((k : ℕ) → n ≤ k → k < t → number_in k ks ≡ true) → number_in t ks ≡ false → first_free (suc (length ks)) ks n ≡ t
least_free ks n t a low busy free =
    let m = t - n in
    let most : m ≤ length ks = many ks n m a (λ k l u. busy k l (omega (arith, u, low))) in
    free_is (suc (length ks)) ks n m t (omega (arith, low)) (omega (arith, most)) busy free
