-- Sets of references are their members in order, so two with the same members are one list.
use Rattle.std.proofs.Common.{◌≡◌, ℕ, zero, suc, Bool, true, false, ◌||◌, List, [], ◌∷◌, ◌++◌, length, refl, sym, ap, subst, ◌∙◌}
use Rattle.std.specs.Prelude.{filter, flat_map}
use Rattle.std.proofs.lemmas.Bool.{both_ways, and_parts}
use Rattle.object_types.specs.declared.references.Ref.{Ref}
use Rattle.method.specs.declared.program.Program.{Program}
use Rattle.object_types.specs.References.{same_ref, ref_lt}
use Rattle.object_types.specs.Sets.{is_in, is_ordered, ordered_from, set_of}
use Rattle.object_types.specs.Heap.{Heap, wrapped}
use Rattle.method.specs.StableSet.{kept_by, grown, stable_set}
use Rattle.object_types.proofs.Orders.{ref_order}
use Rattle.object_types.proofs.Placed.{ordered_placed}
use Rattle.ownership.proofs.Lists.{in_none}
use Rattle.ownership.proofs.Counting.{before_all, tail_ordered}

pub set_ordered : (xs : List Ref) → is_ordered ref_lt (set_of xs) ≡ true
set_ordered [] = refl
set_ordered (x ∷ xs) = ordered_placed ref_lt same_ref ref_order x (set_of xs) (set_ordered xs)

grown_ordered : (n : ℕ) (p : Program) (h : Heap) (set : List Ref) → is_ordered ref_lt set ≡ true → is_ordered ref_lt (grown n p h set) ≡ true
grown_ordered zero p h set o = o
grown_ordered (suc n) p h set o = grown_ordered n p h (set_of (set ++ flat_map (kept_by p h) set)) (set_ordered (set ++ flat_map (kept_by p h) set))

pub stable_ordered : (p : Program) (t : Ref) (h : Heap) → is_ordered ref_lt (stable_set p t h) ≡ true
stable_ordered p t h = grown_ordered (length h.support) p h (set_of (filter (wrapped t h) h.support)) (set_ordered (filter (wrapped t h) h.support))

-- the first of an ordered list is in no place behind
first_once : (x : Ref) (xs : List Ref) → ordered_from ref_lt x xs ≡ true → is_in x xs ≡ false
first_once x [] h = in_none x
first_once x (y ∷ ys) h = let parts = and_parts (ref_lt x y) (ordered_from ref_lt y ys) h in before_all x y ys parts.0 parts.1

Together : List Ref → List Ref → Type 0
Together xs ys = (q : Ref) → is_in q xs ≡ is_in q ys

in_first : (x : Ref) (xs : List Ref) → is_in x (x ∷ xs) ≡ true
unfolding is_in
in_first x xs = rw (ref_order.itself x) refl

-- where the firsts are one, the rests have the same members
rests_together : (x : Ref) (xs ys : List Ref) → is_in x xs ≡ false → is_in x ys ≡ false → Together (x ∷ xs) (x ∷ ys) → Together xs ys
unfolding is_in Together
rests_together x xs ys none_left none_right all q = by_test (same_ref q x) refl (all q)
  where
    by_test : (b : Bool) → same_ref q x ≡ b → (b || is_in q xs) ≡ (b || is_in q ys) → is_in q xs ≡ is_in q ys
    by_test true e h = let q_is = ref_order.equal q x e in subst (λ r. is_in r xs ≡ is_in r ys) (sym q_is) (none_left ∙ sym none_right)
    by_test false e h = h

same_first : (x y : Ref) (xs ys : List Ref) → ordered_from ref_lt x xs ≡ true → ordered_from ref_lt y ys ≡ true → Together (x ∷ xs) (y ∷ ys) → x ≡ y
unfolding Together
same_first x y xs ys o p all = by_test (ref_lt x y) (ref_lt y x) (same_ref x y) refl refl refl
  where
    by_test : (a b c : Bool) → ref_lt x y ≡ a → ref_lt y x ≡ b → same_ref x y ≡ c → x ≡ y
    by_test true b c e f g = absurd (both_ways _ (before_all x y ys e p) (sym (all x) ∙ in_first x xs))
    by_test false true c e f g = absurd (both_ways _ (before_all y x xs f o) (all y ∙ in_first y ys))
    by_test false false true e f g = ref_order.equal x y g
    by_test false false false e f g = absurd (both_ways _ f (ref_order.total x y g e))

pub same_members : (xs ys : List Ref) → is_ordered ref_lt xs ≡ true → is_ordered ref_lt ys ≡ true → ((q : Ref) → is_in q xs ≡ is_in q ys) → xs ≡ ys
unfolding Together
same_members [] [] o p all = refl
same_members [] (y ∷ ys) o p all = absurd (both_ways _ (in_none y) (all y ∙ in_first y ys))
same_members (x ∷ xs) [] o p all = absurd (both_ways _ (in_none x) (sym (all x) ∙ in_first x xs))
same_members (x ∷ xs) (y ∷ ys) o p all =
    let first = same_first x y xs ys o p all in
    let p_x : ordered_from ref_lt x ys ≡ true = subst (λ r. ordered_from ref_lt r ys ≡ true) (sym first) p in
    let all_x : (q : Ref) → is_in q (x ∷ xs) ≡ is_in q (x ∷ ys) = λ q. all q ∙ ap (λ r. is_in q (r ∷ ys)) (sym first) in
    let rest = same_members xs ys (tail_ordered x xs o) (tail_ordered y ys p) (rests_together x xs ys (first_once x xs o) (first_once x ys p_x) all_x) in
    λ i. first i ∷ rest i
