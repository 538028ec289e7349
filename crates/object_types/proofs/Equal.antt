-- Two lists, compared element by element.
use Rattle.std.proofs.Common.{◌≡◌, ℕ, suc, zero, ◌+◌, ◌<◌, ◌≤◌, Bool, true, false, List, [], ◌∷◌, length, get_or, drop, refl, sym, ap, subst, ◌∙◌, arith, add-one, drop-cons}
use Rattle.std.proofs.lemmas.Bool.{both_ways}

-- the lists are of one length, and one if they are one from a place on
pub record Agree {X : Type 0} (xs ys : List X) (i : ℕ) : Type 0 where
  pub lengths : length xs ≡ length ys
  pub before : drop i xs ≡ drop i ys → xs ≡ ys

pub agree_start : {X : Type 0} (xs ys : List X) → length xs ≡ length ys → Agree xs ys 0
agree_start xs ys e = record { lengths = e; before = λ h. h }

pub agree_next : {X : Type 0} (xs ys : List X) (i : ℕ) (d e : X) → Agree xs ys i → i < length xs → get_or xs i d ≡ get_or ys i e → Agree xs ys (i + 1)
agree_next xs ys i d e a l same =
    let other : i < length ys = (let n : length xs ≡ length ys = a.lengths in omega arith) in
    record {
      lengths = a.lengths;
      before = λ h.
          let rest : drop (suc i) xs ≡ drop (suc i) ys = rw add-one at h in
          a.before (rw (drop-cons xs i d, drop-cons ys i e) (λ j. same j ∷ rest j));
    }

drop_all : {X : Type 0} (xs : List X) (i : ℕ) → length xs ≤ i → drop i xs ≡ []
drop_all [] zero h = refl
drop_all [] (suc i) h = refl
drop_all (x ∷ xs) zero h = absurd (omega arith)
drop_all (x ∷ xs) (suc i) h = drop_all xs i (omega arith)

pub agree_end : {X : Type 0} (xs ys : List X) (i : ℕ) → Agree xs ys i → length xs ≤ i → xs ≡ ys
agree_end xs ys i a l =
    let other : length ys ≤ i = (let n : length xs ≡ length ys = a.lengths in omega arith) in
    a.before (drop_all xs i l ∙ sym (drop_all ys i other))

pub any_default : {X : Type 0} (xs : List X) (i : ℕ) (d e : X) → i < length xs → get_or xs i d ≡ get_or xs i e
any_default [] i d e h = absurd (omega arith)
any_default (x ∷ xs) zero d e h = refl
any_default (x ∷ xs) (suc i) d e h = any_default xs i d e (omega arith)

pub elements_differ : {X : Type 0} (same : X → X → Bool) (xs ys : List X) (i : ℕ) (d e : X) → ((x : X) → same x x ≡ true) → i < length xs → same (get_or xs i d) (get_or ys i e) ≡ false → xs ≡ ys → ⊥
elements_differ same xs ys i d e itself l s h =
    let one = any_default xs i d e l ∙ ap (λ zs. get_or zs i e) h in
    both_ways _ s (subst (λ y. same (get_or xs i d) y ≡ true) one (itself (get_or xs i d)))

pub read_differ : {X : Type 0} (same : X → X → Bool) (xs ys : List X) (i : ℕ) (x y : X) → ((z : X) → same z z ≡ true) → i < length xs → x ≡ get_or xs i x → y ≡ get_or ys i y → same x y ≡ false → xs ≡ ys → ⊥
read_differ same xs ys i x y itself l at_x at_y s =
    elements_differ same xs ys i x y itself l (subst (λ a. same a (get_or ys i y) ≡ false) at_x (subst (λ b. same x b ≡ false) at_y s))
