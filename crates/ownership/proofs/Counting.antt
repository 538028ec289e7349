-- How many elements of a list pass, and how long a set is behind a new member.
use Rattle.std.proofs.Common.{◌≡◌, ℕ, suc, ◌+◌, ◌≤◌, ◌⊎◌, inl, inr, Bool, true, false, cond, ◌||◌, List, [], ◌∷◌, length, refl, ap, subst, arith}
use Rattle.std.specs.Prelude.{count_by}
use Rattle.std.proofs.lemmas.List.Sums.{sum_by-cons}
use Rattle.std.proofs.lemmas.Bool.{both_ways, or_cases, and_parts}
use Rattle.object_types.specs.declared.references.Ref.{Ref}
use Rattle.object_types.specs.References.{same_ref, ref_lt}
use Rattle.object_types.specs.Sets.{is_in, is_ordered, ordered_from, with_member}
use Rattle.object_types.proofs.Orders.{ref_order, apart}

counted : (p : Ref → Bool) (x : Ref) (xs : List Ref) → count_by p (x ∷ xs) ≡ cond (p x) 1 0 + count_by p xs
counted p x xs = sum_by-cons (λ y. cond (p y) 1 0) x xs

module _ (less more : Ref → Bool) (wider : (q : Ref) → less q ≡ true → more q ≡ true) where
  -- what passes the one test passes the other
  pub counts_at_most : (xs : List Ref) → count_by less xs ≤ count_by more xs
  counts_at_most [] = omega arith
  counts_at_most (x ∷ xs) = rw (counted less x xs, counted more x xs) (by_tests (less x) (more x) refl refl (counts_at_most xs))
    where
      by_tests : (a b : Bool) → less x ≡ a → more x ≡ b → count_by less xs ≤ count_by more xs → cond a 1 0 + count_by less xs ≤ cond b 1 0 + count_by more xs
      by_tests true true e f rest = omega arith
      by_tests true false e f rest = absurd (both_ways _ f (wider x e))
      by_tests false true e f rest = omega arith
      by_tests false false e f rest = omega arith

  -- and one of the list passes the other alone
  pub counts_less : (o : Ref) → less o ≡ false → more o ≡ true → (xs : List Ref) → is_in o xs ≡ true → count_by less xs + 1 ≤ count_by more xs
  unfolding is_in
  counts_less o none some [] among = absurd (cc)
  counts_less o none some (x ∷ xs) among = rw (counted less x xs, counted more x xs) (by_place (or_cases (same_ref o x) (is_in o xs) among) (λ later. counts_less o none some xs later))
    where
      here : o ≡ x → cond (less x) 1 0 + count_by less xs + 1 ≤ cond (more x) 1 0 + count_by more xs
      here e = rw (subst (λ q. less q ≡ false) e none, subst (λ q. more q ≡ true) e some) (let rest = counts_at_most xs in omega arith)

      by_tests : (a b : Bool) → less x ≡ a → more x ≡ b → count_by less xs + 1 ≤ count_by more xs → cond a 1 0 + count_by less xs + 1 ≤ cond b 1 0 + count_by more xs
      by_tests true true e f rest = omega arith
      by_tests true false e f rest = absurd (both_ways _ f (wider x e))
      by_tests false true e f rest = omega arith
      by_tests false false e f rest = omega arith

      by_place : (same_ref o x ≡ true) ⊎ (is_in o xs ≡ true) → (is_in o xs ≡ true → count_by less xs + 1 ≤ count_by more xs) → cond (less x) 1 0 + count_by less xs + 1 ≤ cond (more x) 1 0 + count_by more xs
      by_place (inl same) more_later = here (ref_order.equal o x same)
      by_place (inr later) more_later = by_tests (less x) (more x) refl refl (more_later later)

-- what is before the first of an ordered list isn't in it
pub before_all : (o x : Ref) (xs : List Ref) → ref_lt o x ≡ true → ordered_from ref_lt x xs ≡ true → is_in o (x ∷ xs) ≡ false
unfolding is_in
before_all o x [] under h = rw (apart ref_lt same_ref ref_order o x under) refl
before_all o x (y ∷ ys) under h =
    let parts = and_parts (ref_lt x y) (ordered_from ref_lt y ys) h in
    rw (apart ref_lt same_ref ref_order o x under) (before_all o y ys (ref_order.chain o x y under parts.0) parts.1)

pub tail_ordered : (x : Ref) (xs : List Ref) → ordered_from ref_lt x xs ≡ true → is_ordered ref_lt xs ≡ true
tail_ordered x [] h = refl
tail_ordered x (y ∷ ys) h = (and_parts (ref_lt x y) (ordered_from ref_lt y ys) h).1

-- a member leaves the set's length; anything else makes it longer by one
pub record Grows (o : Ref) (set : List Ref) (new : ℕ) (member : Bool) : Type 0 where
  pub there : member ≡ true → new ≡ length set
  pub new_there : member ≡ false → new ≡ suc (length set)

pub length_with : (o : Ref) (set : List Ref) → is_ordered ref_lt set ≡ true → Grows o set (length (with_member o set)) (is_in o set)
unfolding is_in
length_with o [] h = record { there = λ e. absurd (cc); new_there = λ e. refl }
length_with o (x ∷ xs) h =
    let rest : Grows o xs (length (with_member o xs)) (is_in o xs) = length_with o xs (tail_ordered x xs h) in
    by_test (same_ref o x) (ref_lt o x) refl refl rest
  where
    by_test : (a b : Bool) → same_ref o x ≡ a → ref_lt o x ≡ b → Grows o xs (length (with_member o xs)) (is_in o xs) → Grows o (x ∷ xs) (length (cond a (x ∷ xs) (cond b (o ∷ x ∷ xs) (x ∷ with_member o xs)))) (a || is_in o xs)
    by_test true b e f rest = record { there = λ m. refl; new_there = λ m. absurd (cc) }
    by_test false true e f rest = record { there = λ m. absurd (both_ways _ (in_tail (before_all o x xs f h)) m); new_there = λ m. refl }
      where
        in_tail : is_in o (x ∷ xs) ≡ false → is_in o xs ≡ false
        in_tail none = rw e at none
    by_test false false e f rest = record { there = λ m. ap suc (rest.there m); new_there = λ m. ap suc (rest.new_there m) }
