-- Lists that stand in an order, each element once by its key. Own.
use Rattle.std.specs.Prelude.{◌≡◌, ℕ, suc, ◌<◌, ◌≤◌, Bool, true, not, ◌&&◌, if◌then◌else◌, List, [], ◌∷◌, filter, length, slice_index_or, IsTrue, IsFalse}

abbrev pub ordered_from : {X : Type 0} → (X → X → Bool) → X → List X → Bool
ordered_from before x [] = true
ordered_from before x (y ∷ ys) = before x y && ordered_from before y ys

-- each before the next
abbrev pub is_ordered : {X : Type 0} → (X → X → Bool) → List X → Bool
is_ordered before [] = true
is_ordered before (x ∷ xs) = ordered_from before x xs

-- how many elements at the front pass
abbrev pub place : {X : Type 0} → (X → Bool) → List X → ℕ
place passes [] = 0
place passes (x ∷ xs) = if passes x then suc (place passes xs) else 0

-- the list with x at its place, unless it has it
abbrev pub placed : {X : Type 0} → (X → X → Bool) → (X → X → Bool) → X → List X → List X
placed before same x [] = x ∷ []
placed before same x (y ∷ ys) = if same x y then y ∷ ys else (if before x y then x ∷ y ∷ ys else y ∷ placed before same x ys)

-- the list with x at its place, instead of the element with its key
abbrev pub replaced : {X K : Type 0} → (X → K) → (K → K → Bool) → (K → K → Bool) → X → List X → List X
replaced key before same x [] = x ∷ []
replaced key before same x (y ∷ ys) = if same (key x) (key y) then x ∷ ys else (if before (key x) (key y) then x ∷ y ∷ ys else y ∷ replaced key before same x ys)

-- the list without the element with the key
abbrev pub taken_out : {X K : Type 0} → (X → K) → (K → K → Bool) → K → List X → List X
taken_out key same k = filter (λ y. not (same (key y) k))

-- the element at place i has the key k
pub record IsAt {X K : Type 0} (key : X → K) (before same : K → K → Bool) (k : K) (xs : List X) (i : ℕ) : Type 0 where
  pub here : i ≡ place (λ y. before (key y) k) xs
  pub within : i < length xs
  pub has : (d : X) → IsTrue (same (key (slice_index_or xs i d)) k)

-- no element has the key k; one that has it goes to place i
pub record GoesAt {X K : Type 0} (key : X → K) (before same : K → K → Bool) (k : K) (xs : List X) (i : ℕ) : Type 0 where
  pub here : i ≡ place (λ y. before (key y) k) xs
  pub within : i ≤ length xs
  pub lacks : (d : X) → i < length xs → IsFalse (same (key (slice_index_or xs i d)) k)
