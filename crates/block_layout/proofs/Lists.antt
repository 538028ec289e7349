-- Fronts of lists, and what stands at a place.
use Rattle.std.proofs.Common.{◌≡◌, ℕ, zero, suc, ◌+◌, ◌<◌, ◌≤◌, ◌⊎◌, inl, inr, List, [], ◌∷◌, ◌++◌, map, length, take, drop, Option, Some, None, slice_get, get_or, refl, ap, sym, ◌∙◌, subst, arith, length-append}
use Rattle.std.proofs.lemmas.Option.{slice_get_within}

next_taken : {X : Type 0} (xs : List X) (i : ℕ) (x : X) → slice_get xs i ≡ Some x → take (suc i) xs ≡ take i xs ++ x ∷ []
next_taken [] i x h = cc
next_taken (y ∷ xs) zero x h = cc
next_taken (y ∷ xs) (suc i) x h = ap (λ zs. y ∷ zs) (next_taken xs i x h)

-- a front with one more
pub take_next : {X : Type 0} (xs : List X) (i : ℕ) (x : X) → slice_get xs i ≡ Some x → take (i + 1) xs ≡ take i xs ++ x ∷ []
take_next xs i x h = let e : i + 1 ≡ suc i = omega arith in ap (λ n. take n xs) e ∙ next_taken xs i x h

pub take_all : {X : Type 0} (xs : List X) (n : ℕ) → length xs ≤ n → take n xs ≡ xs
take_all [] zero h = refl
take_all [] (suc n) h = refl
take_all (x ∷ xs) zero h = absurd (omega arith)
take_all (x ∷ xs) (suc n) h = ap (λ zs. x ∷ zs) (take_all xs n (omega arith))

pub take_long : {X : Type 0} (xs : List X) (n : ℕ) → n ≤ length xs → length (take n xs) ≡ n
take_long xs zero h = refl
take_long [] (suc n) h = absurd (omega arith)
take_long (x ∷ xs) (suc n) h = ap suc (take_long xs n (omega arith))

pub take_get : {X : Type 0} (xs : List X) (n i : ℕ) (x : X) → slice_get (take n xs) i ≡ Some x → slice_get xs i ≡ Some x
take_get xs zero i x h = cc
take_get [] (suc n) i x h = h
take_get (y ∷ xs) (suc n) zero x h = h
take_get (y ∷ xs) (suc n) (suc i) x h = take_get xs n i x h

pub get_take : {X : Type 0} (xs : List X) (n i : ℕ) (x : X) → i < n → slice_get xs i ≡ Some x → slice_get (take n xs) i ≡ Some x
get_take xs zero i x l h = absurd (omega arith)
get_take [] (suc n) i x l h = h
get_take (y ∷ xs) (suc n) zero x l h = h
get_take (y ∷ xs) (suc n) (suc i) x l h = get_take xs n i x (omega arith) h

-- a list whose places are those of a longer one is its front
pub front_of : {X : Type 0} (xs ys : List X) → ((i : ℕ) (x : X) → slice_get xs i ≡ Some x → slice_get ys i ≡ Some x) → take (length xs) ys ≡ xs
front_of [] ys h = refl
front_of (x ∷ xs) [] h = let e : None ≡ Some x = h 0 x refl in cc
front_of (x ∷ xs) (y ∷ ys) h =
    let e : Some y ≡ Some x = h 0 x refl in
    let same : y ≡ x = cc in
    ap (λ z. z ∷ take (length xs) ys) same ∙ ap (λ zs. x ∷ zs) (front_of xs ys (λ i z g. h (suc i) z g))

-- a front of a front
pub front_then : {X : Type 0} (xs ys zs : List X) → take (length xs) ys ≡ xs → take (length ys) zs ≡ ys → take (length xs) zs ≡ xs
front_then [] ys zs p q = refl
front_then (x ∷ xs) [] zs p q = cc
front_then (x ∷ xs) (y ∷ ys) [] p q = cc
front_then (x ∷ xs) (y ∷ ys) (z ∷ zs) p q =
    let same : y ≡ x = cc in
    let also : z ≡ y = cc in
    let rest : take (length xs) ys ≡ xs = cc in
    let more : take (length ys) zs ≡ ys = cc in
    ap (λ w. w ∷ take (length xs) zs) (also ∙ same) ∙ ap (λ ws. x ∷ ws) (front_then xs ys zs rest more)

-- what stands at a place of a list with one more at its end
pub get_more : {X : Type 0} (xs : List X) (y : X) (i : ℕ) (x : X) → slice_get (xs ++ y ∷ []) i ≡ Some x → (slice_get xs i ≡ Some x) ⊎ ((i ≡ length xs) × (x ≡ y))
get_more [] y zero x h = inr (refl, cc)
get_more [] y (suc i) x h = inl h
get_more (z ∷ xs) y zero x h = inl h
get_more (z ∷ xs) y (suc i) x h =
    elim (get_more xs y i x h) as (λ _. (slice_get xs i ≡ Some x) ⊎ ((suc i ≡ suc (length xs)) × (x ≡ y))) [ inl g ↦ inl g | inr g ↦ inr (ap suc g.0, g.1) ]

pub get_front : {X : Type 0} (xs ys : List X) (i : ℕ) (x : X) → slice_get xs i ≡ Some x → slice_get (xs ++ ys) i ≡ Some x
get_front [] ys i x h = cc
get_front (z ∷ xs) ys zero x h = h
get_front (z ∷ xs) ys (suc i) x h = get_front xs ys i x h

pub map_more : {X Y : Type 0} (f : X → Y) (xs : List X) (x : X) → map f (xs ++ x ∷ []) ≡ map f xs ++ f x ∷ []
map_more f [] x = refl
map_more f (y ∷ xs) x = ap (λ zs. f y ∷ zs) (map_more f xs x)

pub below_gets : {X : Type 0} (xs : List X) (i : ℕ) → i < length xs → (x : X) × (slice_get xs i ≡ Some x)
below_gets [] i h = absurd (omega arith)
below_gets (x ∷ xs) zero h = (x, refl)
below_gets (x ∷ xs) (suc i) h = below_gets xs i (omega arith)

pub drop_all : {X : Type 0} (xs : List X) (n : ℕ) → length xs ≤ n → [] ≡ drop n xs
drop_all [] zero h = refl
drop_all [] (suc n) h = refl
drop_all (x ∷ xs) zero h = absurd (omega arith)
drop_all (x ∷ xs) (suc n) h = drop_all xs n (omega arith)
