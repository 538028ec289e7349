-- Lists: what stands at a place, and what is behind it.
use Rattle.std.proofs.Common.{◌≡◌, ℕ, zero, suc, ◌+◌, ◌<◌, ◌≤◌, List, [], ◌∷◌, ◌++◌, length, take, drop, get_or, slice_get, Some, append_assoc, refl, ap, sym, ◌∙◌, arith}
use Rattle.std.specs.Borrow.{Bor}
use Rattle.certificate_upgrade.specs.declared.conclusion.Conclusion.{Conclusion}
use Rattle.upgrade_lemmas.specs.Chosen.{referents}

next_dropped : {X : Type 0} (xs : List X) (i : ℕ) (x : X) → i < length xs → x ≡ get_or xs i x → drop i xs ≡ x ∷ drop (suc i) xs
next_dropped [] i x h e = absurd (omega arith)
next_dropped (y ∷ xs) zero x h e = ap (λ z. z ∷ xs) (sym e)
next_dropped (y ∷ xs) (suc i) x h e = next_dropped xs i x (omega arith) e

-- what is left at a place, with its element
pub drop_next : {X : Type 0} (xs : List X) (i : ℕ) (x : X) → i < length xs → x ≡ get_or xs i x → drop i xs ≡ x ∷ drop (i + 1) xs
drop_next xs i x h e = let n : suc i ≡ i + 1 = omega arith in next_dropped xs i x h e ∙ ap (λ k. x ∷ drop k xs) n

pub drop_next_or : {X : Type 0} (xs : List X) (i : ℕ) (d : X) → i < length xs → drop i xs ≡ get_or xs i d ∷ drop (i + 1) xs
drop_next_or [] i d h = absurd (omega arith)
drop_next_or (x ∷ xs) zero d h = refl
drop_next_or (x ∷ xs) (suc i) d h = let n : suc (i + 1) ≡ suc i + 1 = omega arith in drop_next_or xs i d (omega arith) ∙ ap (λ k. get_or xs i d ∷ drop k (x ∷ xs)) n

pub drop_end : {X : Type 0} (xs : List X) (i : ℕ) → length xs ≤ i → drop i xs ≡ []
drop_end [] zero h = refl
drop_end [] (suc i) h = refl
drop_end (x ∷ xs) zero h = absurd (omega arith)
drop_end (x ∷ xs) (suc i) h = drop_end xs i (omega arith)

drop_none : {X : Type 0} (i : ℕ) → drop i (let none : List X = [] in none) ≡ []
drop_none zero = refl
drop_none (suc i) = refl

pub drop_again : {X : Type 0} (xs : List X) (i k : ℕ) → drop k (drop i xs) ≡ drop (i + k) xs
drop_again xs zero k = let e : k ≡ 0 + k = omega arith in ap (λ n. drop n xs) e
drop_again {X} [] (suc i) k = drop_none {X = X} k ∙ sym (drop_none {X = X} (suc i + k))
drop_again (x ∷ xs) (suc i) k = let e : suc (i + k) ≡ suc i + k = omega arith in drop_again xs i k ∙ ap (λ n. drop n (x ∷ xs)) e

next_got : {X : Type 0} (xs : List X) (i : ℕ) (x : X) → slice_get xs i ≡ Some x → drop i xs ≡ x ∷ drop (suc i) xs
next_got [] i x h = cc
next_got (y ∷ xs) zero x h = let e : y ≡ x = cc in ap (λ z. z ∷ xs) e
next_got (y ∷ xs) (suc i) x h = next_got xs i x h

-- a copy of the element at the next place is put behind those before it
pub copied_next : {X : Type 0} (xs before more start : List X) (i : ℕ) (x y : X) → before ++ drop i xs ≡ start → slice_get xs i ≡ Some x → y ≡ x → more ≡ before ++ y ∷ [] → more ++ drop (i + 1) xs ≡ start
copied_next xs before more start i x y so_far at same e =
    let n : i + 1 ≡ suc i = omega arith in
    ap (λ ys. ys ++ drop (i + 1) xs) e
    ∙ (append_assoc before (y ∷ []) (drop (i + 1) xs)
    ∙ ((λ k. before ++ same k ∷ drop (n k) xs)
    ∙ (sym (ap (λ ys. before ++ ys) (next_got xs i x at)) ∙ so_far)))

pub get_dropped : {X : Type 0} (xs : List X) (i : ℕ) → slice_get (drop i xs) 0 ≡ slice_get xs i
get_dropped xs zero = refl
get_dropped [] (suc i) = refl
get_dropped (x ∷ xs) (suc i) = get_dropped xs i

pub get_or_dropped : {X : Type 0} (xs : List X) (i : ℕ) (d : X) → get_or (drop i xs) 0 d ≡ get_or xs i d
get_or_dropped xs zero d = refl
get_or_dropped [] (suc i) d = refl
get_or_dropped (x ∷ xs) (suc i) d = get_or_dropped xs i d

pub behind_at : (cs : List (Bor Conclusion)) (i : ℕ) (c : Bor Conclusion) → i < length cs → c ≡ get_or cs i c → c.now ≡ get_or (referents cs) i c.now
behind_at [] i c h e = absurd (omega arith)
behind_at (d ∷ cs) zero c h e = ap (λ (x : Bor Conclusion). x.now) e
behind_at (d ∷ cs) (suc i) c h e = behind_at cs i c (omega arith) e

pub behind_length : (cs : List (Bor Conclusion)) → length (referents cs) ≡ length cs
behind_length [] = refl
behind_length (c ∷ cs) = ap suc (behind_length cs)

pub behind_taken : (n : ℕ) (cs : List (Bor Conclusion)) → referents (take n cs) ≡ take n (referents cs)
behind_taken zero cs = refl
behind_taken (suc n) [] = refl
behind_taken (suc n) (c ∷ cs) = ap (λ (xs : List Conclusion). c.now ∷ xs) (behind_taken n cs)
