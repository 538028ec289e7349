-- What stands at a place of a list, and behind it.
use Rattle.std.proofs.Common.{◌≡◌, ℕ, zero, suc, ◌+◌, List, [], ◌∷◌, map, length, drop, Some, slice_get, refl, ap, ◌∙◌, arith}

drop_next : {X : Type 0} (xs : List X) (i : ℕ) (x : X) → slice_get xs i ≡ Some x → drop i xs ≡ x ∷ drop (suc i) xs
drop_next [] i x h = cc
drop_next (y ∷ xs) zero x h =
    let same : y ≡ x = cc in
    ap (λ z. z ∷ xs) same
drop_next (y ∷ xs) (suc i) x h = drop_next xs i x h

pub drop_at : {X : Type 0} (xs : List X) (i : ℕ) (x : X) → slice_get xs i ≡ Some x → drop i xs ≡ x ∷ drop (i + 1) xs
drop_at xs i x h =
    let next : suc i ≡ i + 1 = omega arith in
    drop_next xs i x h ∙ ap (λ n. x ∷ drop n xs) next

pub map_long : {X Y : Type 0} (f : X → Y) (xs : List X) → length (map f xs) ≡ length xs
map_long f [] = refl
map_long f (x ∷ xs) = ap suc (map_long f xs)
