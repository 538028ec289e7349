-- Members of lists of references.
use Rattle.std.proofs.Common.{◌≡◌, ℕ, ◌+◌, ◌<◌, ◌≤◌, Bool, true, false, ◌||◌, List, [], ◌∷◌, ◌++◌, length, get_or, drop, refl, ap, ◌∙◌, add-one, drop-cons}
use Rattle.std.proofs.Math.ListN.{drop_of_length-le}
use Rattle.object_types.specs.declared.references.Ref.{Ref}
use Rattle.object_types.specs.References.{same_ref}
use Rattle.object_types.specs.Sets.{is_in}

or_assoc : (a b c : Bool) → (a || (b || c)) ≡ ((a || b) || c)
or_assoc true b c = refl
or_assoc false b c = refl

pub or_false : (b : Bool) → (b || false) ≡ b
or_false true = refl
or_false false = refl

pub or_true : (b : Bool) → (b || true) ≡ true
or_true true = refl
or_true false = refl

pub in_append : (q : Ref) (xs ys : List Ref) → is_in q (xs ++ ys) ≡ (is_in q xs || is_in q ys)
unfolding is_in
in_append q [] ys = refl
in_append q (x ∷ xs) ys = ap (λ b. same_ref q x || b) (in_append q xs ys) ∙ or_assoc (same_ref q x) (is_in q xs) (is_in q ys)

pub in_one : (q x : Ref) → is_in q (x ∷ []) ≡ same_ref q x
unfolding is_in
in_one q x = or_false (same_ref q x)

pub in_none : (q : Ref) → is_in q [] ≡ false
unfolding is_in
in_none q = refl

-- A search through a list from a place on.

pub in_at : (q : Ref) (xs : List Ref) (i : ℕ) (d : Ref) → is_in q xs ≡ is_in q (drop i xs) → i < length xs → same_ref q (get_or xs i d) ≡ true → is_in q xs ≡ true
unfolding is_in
in_at q xs i d e l s = e ∙ rw (drop-cons xs i d l, s) refl

pub in_next : (q : Ref) (xs : List Ref) (i : ℕ) (d : Ref) → is_in q xs ≡ is_in q (drop i xs) → i < length xs → same_ref q (get_or xs i d) ≡ false → is_in q xs ≡ is_in q (drop (i + 1) xs)
unfolding is_in
in_next q xs i d e l s = e ∙ rw (add-one, drop-cons xs i d l, s) refl

pub in_end : (q : Ref) (xs : List Ref) (i : ℕ) → is_in q xs ≡ is_in q (drop i xs) → length xs ≤ i → is_in q xs ≡ false
in_end q xs i e l = e ∙ ap (is_in q) (drop_of_length-le xs l) ∙ in_none q
