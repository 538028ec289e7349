-- What is left of a list behind a place.
use Rattle.std.proofs.Common.{◌≡◌, ℕ, zero, suc, ◌+◌, List, [], ◌∷◌, drop, Some, None, slice_get, refl, ap, ◌∙◌, arith}

next_left : {X : Type 0} (xs : List X) (i : ℕ) (x : X) → slice_get xs i ≡ Some x → drop i xs ≡ x ∷ drop (suc i) xs
next_left [] i x h = cc
next_left (y ∷ xs) zero x h =
    let same : y ≡ x = cc in
    ap (λ z. z ∷ xs) same
next_left (y ∷ xs) (suc i) x h = next_left xs i x h

-- what stands at the place is the first of what is left
pub at_left : {X : Type 0} (xs : List X) (i : ℕ) (x : X) → slice_get xs i ≡ Some x → drop i xs ≡ x ∷ drop (i + 1) xs
at_left xs i x h =
    let next : suc i ≡ i + 1 = omega arith in
    next_left xs i x h ∙ ap (λ n. x ∷ drop n xs) next

pub none_left : {X : Type 0} (xs : List X) (i : ℕ) → slice_get xs i ≡ None → drop i xs ≡ []
none_left [] zero h = refl
none_left [] (suc i) h = refl
none_left (y ∷ xs) zero h = absurd (cc)
none_left (y ∷ xs) (suc i) h = none_left xs i h

one_fewer : {X : Type 0} (xs : List X) (i : ℕ) → drop 1 (drop i xs) ≡ drop (suc i) xs
one_fewer xs zero = refl
one_fewer [] (suc i) = refl
one_fewer (x ∷ xs) (suc i) = one_fewer xs i

pub left_next : {X : Type 0} (xs : List X) (i : ℕ) → drop 1 (drop i xs) ≡ drop (i + 1) xs
left_next xs i =
    let next : suc i ≡ i + 1 = omega arith in
    one_fewer xs i ∙ ap (λ n. drop n xs) next
