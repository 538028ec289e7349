-- The first place of a name in a list.
use Rattle.std.proofs.Common.{◌≡◌, ℕ, ◌+◌, ◌<◌, Bool, true, false, cond, List, [], ◌∷◌, ◌++◌, length, map, take, get_or, position, find, nat_lt, slice_get, Option, None, Some, refl, sym, ap, ◌∙◌, arith}
use Rattle.std.specs.List.{position_from, position_or_len}
use Rattle.std.specs.Option.{option_or, option_and_then, option_map}
use Rattle.std.proofs.lemmas.Iterator.Adapters.{position_from-zero}
use Rattle.std.proofs.lemmas.List.{take_more, length-take}
use Rattle.std.proofs.lemmas.List.Folds.{find_at}
use Rattle.std.proofs.lemmas.Option.{slice_get_past, slice_get-get_or}
use Rattle.std.proofs.lemmas.Bool.Decides.{nat_tests}
use Rattle.typing_symbols.specs.Lookup.{place_if}

from_push : {X : Type 0} (p : X → Bool) (i n : ℕ) (xs : List X) (y : X) → i + length xs ≡ n
    → position_from p i (xs ++ y ∷ []) ≡ option_or (position_from p i xs) (place_if (p y) n)
from_push p i n [] y e = let here : i ≡ n = omega arith in ap (λ k. place_if (p y) k) here
from_push {X} p i n (x ∷ xs) y e = by (p x) (from_push p (i + 1) n xs y (omega arith))
  where
    by : (b : Bool) → position_from p (i + 1) (xs ++ y ∷ []) ≡ option_or (position_from p (i + 1) xs) (place_if (p y) n) → cond b (Some i) (position_from p (i + 1) (xs ++ y ∷ [])) ≡ option_or (cond b (Some i) (position_from p (i + 1) xs)) (place_if (p y) n)
    by true more = refl
    by false more = more

-- one more at the end
pub position_push : {X : Type 0} (p : X → Bool) (xs : List X) (y : X)
    → position p (xs ++ y ∷ []) ≡ option_or (position p xs) (place_if (p y) (length xs))
position_push p xs y =
    position_from-zero p (xs ++ y ∷ []) ∙ from_push p 0 (length xs) xs y (omega arith)
    ∙ ap (λ o. option_or o (place_if (p y) (length xs))) (sym (position_from-zero p xs))

-- a loop's step: a table has the first places among the elements so far
pub step : {X : Type 0} (p : List ℕ → X → Bool) (f g : List ℕ → Option ℕ) (xs : List X) (i : ℕ) (x : X) → i < length xs → x ≡ get_or xs i x
    → ((y : List ℕ) → f y ≡ position (p y) (take i xs))
    → ((y : List ℕ) → g y ≡ option_or (f y) (place_if (p y x) i))
    → (y : List ℕ) → g y ≡ position (p y) (take (i + 1) xs)
step {X} p f g xs i x within same before noted y =
    let many : length (take i xs) ≡ i = omega (arith, length-take {A = X}) in
    let more : take (i + 1) xs ≡ take i xs ++ x ∷ [] = take_more xs i x within ∙ ap (λ z. take i xs ++ z ∷ []) (sym same) in
    noted y ∙ ap (λ o. option_or o (place_if (p y x) i)) (before y)
    ∙ ap (λ k. option_or (position (p y) (take i xs)) (place_if (p y x) k)) (sym many)
    ∙ sym (position_push (p y) (take i xs) x) ∙ ap (position (p y)) (sym more)

-- what stands at the first place is what is found
pub find_place : {X : Type 0} (p : X → Bool) (xs : List X) → find p xs ≡ option_and_then (slice_get xs) (position p xs)
find_place p xs = by (nat_lt (position_or_len p xs) (length xs)) refl
  where
    by : (b : Bool) → nat_lt (position_or_len p xs) (length xs) ≡ b → find p xs ≡ option_and_then (slice_get xs) (cond b (Some (position_or_len p xs)) None)
    by true e = find_at p xs
    by false e = find_at p xs ∙ slice_get_past xs (position_or_len p xs) (grind (arith, nat_tests))

-- a first place lies within
pub place_within : {X : Type 0} (p : X → Bool) (xs : List X) (k : ℕ) → Some k ≡ position p xs → k < length xs
place_within p xs k e = by (nat_lt (position_or_len p xs) (length xs)) refl e
  where
    by : (b : Bool) → nat_lt (position_or_len p xs) (length xs) ≡ b → Some k ≡ cond b (Some (position_or_len p xs)) None → k < length xs
    by true t h = let same : k ≡ position_or_len p xs = cc in grind (arith, nat_tests)
    by false t h = let none : ⊥ = cc in absurd none

find_map : {X Y : Type 0} (f : X → Y) (q : Y → Bool) (xs : List X) → option_map f (find (λ x. q (f x)) xs) ≡ find q (map f xs)
find_map f q [] = refl
find_map f q (x ∷ xs) = by (q (f x)) (find_map f q xs)
  where
    by : (b : Bool) → option_map f (find (λ z. q (f z)) xs) ≡ find q (map f xs) → option_map f (cond b (Some x) (find (λ z. q (f z)) xs)) ≡ cond b (Some (f x)) (find q (map f xs))
    by true more = refl
    by false more = more

module _ {X Y : Type 0} (f : X → Y) (q : Y → Bool) (xs zs : List X) (place : Option ℕ) (at : find (λ x. q (f x)) xs ≡ option_and_then (slice_get zs) place) where
  -- no place, nothing found
  pub lookup_none : None ≡ place → None ≡ find q (map f xs)
  lookup_none e = ap (λ o. option_map f (option_and_then (slice_get zs) o)) e ∙ ap (option_map f) (sym at) ∙ find_map f q xs

  -- what stands at the place is found
  pub lookup_one : (k : ℕ) (x : X) → Some k ≡ place → k < length zs → x ≡ get_or zs k x → Some (f x) ≡ find q (map f xs)
  lookup_one k x e within there =
      ap (λ z. Some (f z)) there ∙ sym (ap (option_map f) (slice_get-get_or zs k x within))
      ∙ ap (λ o. option_map f (option_and_then (slice_get zs) o)) e ∙ ap (option_map f) (sym at) ∙ find_map f q xs

module _ {X Y : Type 0} (f : X → Y) (q : Y → Bool) (xs : List X) (ys : List Y) (same : map f xs ≡ ys) where
  -- the same at first places
  pub none_found : None ≡ position (λ x. q (f x)) xs → None ≡ find q ys
  none_found e = lookup_none f q xs xs _ (find_place (λ x. q (f x)) xs) e ∙ ap (find q) same

  pub one_found : (k : ℕ) (x : X) → Some k ≡ position (λ z. q (f z)) xs → x ≡ get_or xs k x → Some (f x) ≡ find q ys
  one_found k x e there = lookup_one f q xs xs _ (find_place (λ z. q (f z)) xs) k x e (place_within (λ z. q (f z)) xs k e) there ∙ ap (find q) same

position_from-map : {X Y : Type 0} (f : X → Y) (q : Y → Bool) (i : ℕ) (xs : List X) → position_from (λ x. q (f x)) i xs ≡ position_from q i (map f xs)
position_from-map f q i [] = refl
position_from-map f q i (x ∷ xs) = by (q (f x)) (position_from-map f q (i + 1) xs)
  where
    by : (b : Bool) → position_from (λ z. q (f z)) (i + 1) xs ≡ position_from q (i + 1) (map f xs) → cond b (Some i) (position_from (λ z. q (f z)) (i + 1) xs) ≡ cond b (Some i) (position_from q (i + 1) (map f xs))
    by true more = refl
    by false more = more

-- the first place is the same in what a list stands for
pub position_in : {X Y : Type 0} (f : X → Y) (q : Y → Bool) (xs : List X) (ys : List Y) → map f xs ≡ ys → position (λ x. q (f x)) xs ≡ position q ys
position_in f q xs ys same = position_from-zero (λ x. q (f x)) xs ∙ position_from-map f q 0 xs ∙ sym (position_from-zero q (map f xs)) ∙ ap (position q) same
