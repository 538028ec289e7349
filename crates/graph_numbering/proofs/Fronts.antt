-- The numbers of arguments up to the first that has none.
use Rattle.std.proofs.Common.{◌≡◌, ℕ, zero, suc, ◌+◌, ◌<◌, ◌≤◌, List, [], ◌∷◌, length, get_or, drop, Option, None, Some, slice_get, refl, ap, sym, ◌∙◌, subst, arith}
use Rattle.std.proofs.lemmas.List.{drop_all}
use Rattle.graph_numbering.specs.Places.{place_of}
use Rattle.graph_numbering.specs.Walk.{front_with, placed_front}

drop_next : (xs : List ℕ) (n m : ℕ) → n < length xs → m ≡ suc n → drop n xs ≡ get_or xs n 0 ∷ drop m xs
drop_next [] n m l e = absurd (omega arith)
drop_next (x ∷ xs) zero m l e = ap (λ k. x ∷ drop k (x ∷ xs)) (sym e)
drop_next (x ∷ xs) (suc n) zero l e = absurd (omega arith)
drop_next (x ∷ xs) (suc n) (suc m) l e = drop_next xs n m (omega arith) (omega arith)

pub front_turn : (places : List (Option ℕ)) (args : List ℕ) (next id : ℕ) → next < length args → place_of places (get_or args next 0) ≡ Some id → placed_front places (drop next args) ≡ id ∷ placed_front places (drop (next + 1) args)
front_turn places args next id l h =
    ap (λ xs. placed_front places xs) (drop_next args next (next + 1) l (omega arith)) ∙ ap (λ o. front_with (placed_front places (drop (next + 1) args)) o) h

pub front_stop : (places : List (Option ℕ)) (args : List ℕ) (next : ℕ) → next < length args → place_of places (get_or args next 0) ≡ None → placed_front places (drop next args) ≡ []
front_stop places args next l h =
    ap (λ xs. placed_front places xs) (drop_next args next (next + 1) l (omega arith)) ∙ ap (λ o. front_with (placed_front places (drop (next + 1) args)) o) h

pub front_end : (places : List (Option ℕ)) (args : List ℕ) (next : ℕ) → length args ≤ next → placed_front places (drop next args) ≡ []
front_end places args next l = ap (λ xs. placed_front places xs) (drop_all next args l)

-- the argument behind them has none
front_unplaced : (places : List (Option ℕ)) (rest : List ℕ) (a : ℕ) → slice_get rest (length (placed_front places rest)) ≡ Some a → place_of places a ≡ None
front_unplaced places [] a h = absurd (let no : None ≡ Some a = h in cc)
front_unplaced places (b ∷ rest) a h =
    elim (place_of places b) as (λ o. place_of places b ≡ o → slice_get (b ∷ rest) (length (front_with (placed_front places rest) o)) ≡ Some a → place_of places a ≡ None) [
      | None ↦ λ q g. (let e : b ≡ a = (let same : Some b ≡ Some a = g in cc) in subst (λ (n : ℕ). place_of places n ≡ None) e q)
      | Some id ↦ λ q g. front_unplaced places rest a g
    ] refl h

get_behind : (xs : List ℕ) (n m k : ℕ) → k ≡ n + m → slice_get (drop n xs) m ≡ slice_get xs k
get_behind xs zero m k e = ap (λ i. slice_get xs i) (let s : m ≡ k = omega arith in s)
get_behind [] (suc n) m k e = refl
get_behind (x ∷ xs) (suc n) m zero e = absurd (omega arith)
get_behind (x ∷ xs) (suc n) m (suc k) e = get_behind xs n m k (omega arith)

pub front_open : (places : List (Option ℕ)) (args : List ℕ) (first next a : ℕ) → next ≡ first + length (placed_front places (drop first args)) → slice_get args next ≡ Some a → place_of places a ≡ None
front_open places args first next a e h =
    front_unplaced places (drop first args) a (get_behind args first (length (placed_front places (drop first args))) next e ∙ h)
