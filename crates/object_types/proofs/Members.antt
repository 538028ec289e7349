-- A set of references before and after a change at a place.
use Rattle.std.proofs.Common.{◌≡◌, ℕ, Bool, true, false, not, cond, ◌&&◌, ◌||◌, List, [], ◌∷◌, refl, sym, ap, subst, ◌∙◌}
use Rattle.std.specs.List.{insert, remove}
use Rattle.object_types.specs.declared.references.Ref.{Ref}
use Rattle.object_types.specs.References.{same_ref, ref_lt}
use Rattle.object_types.specs.Places.{is_ordered, IsAt, GoesAt}
use Rattle.object_types.specs.Sets.{is_in, with_member, without_member, set_member}
use Rattle.std.proofs.lemmas.Bool.{not_from_false}
use Rattle.object_types.proofs.Orders.{ref_order}
use Rattle.object_types.proofs.Placed.{placed_at, inserted_at, remove_at, absent_out, ordered_placed, ordered_filter}

pub member_stays : (r : Ref) (s : List Ref) (i : ℕ) (holds : Bool) → IsAt (λ y. y) ref_lt same_ref r s i → holds ≡ true → s ≡ set_member r holds s
member_stays r s i holds a h = rw h (sym (placed_at ref_lt same_ref ref_order r s i a))

pub member_leaves : (r : Ref) (s : List Ref) (i : ℕ) (holds : Bool) → is_ordered ref_lt s ≡ true → IsAt (λ y. y) ref_lt same_ref r s i → holds ≡ false → remove s i ≡ set_member r holds s
member_leaves r s i holds o a h = rw h (remove_at (λ y. y) ref_lt same_ref ref_order r s i o a)

pub other_stays_out : (r : Ref) (s : List Ref) (i : ℕ) (holds : Bool) → is_ordered ref_lt s ≡ true → GoesAt (λ y. y) ref_lt same_ref r s i → holds ≡ false → s ≡ set_member r holds s
other_stays_out r s i holds o a h = rw h (sym (absent_out (λ y. y) ref_lt same_ref ref_order r s i o a))

pub other_enters : (r : Ref) (s : List Ref) (i : ℕ) (holds : Bool) → GoesAt (λ y. y) ref_lt same_ref r s i → holds ≡ true → insert s i r ≡ set_member r holds s
other_enters r s i holds a h = rw h (inserted_at ref_lt same_ref ref_order r s i a)

pub set_member_ordered : (r : Ref) (s : List Ref) (holds : Bool) → is_ordered ref_lt s ≡ true → is_ordered ref_lt (set_member r holds s) ≡ true
set_member_ordered r s true o = ordered_placed ref_lt same_ref ref_order r s o
set_member_ordered r s false o = ordered_filter (λ y. y) ref_lt same_ref ref_order _ s o

twice : (a b : Bool) → (a || b) ≡ (a || (a || b))
twice true b = refl
twice false b = refl

swapped : (a b c : Bool) → (a || (b || c)) ≡ (b || (a || c))
swapped true true c = refl
swapped true false c = refl
swapped false true c = refl
swapped false false c = refl

pub is_in_with : (q r : Ref) (s : List Ref) → is_in q (with_member r s) ≡ (same_ref q r || is_in q s)
unfolding is_in
is_in_with q r [] = refl
is_in_with q r (p ∷ ps) =
    let rest : is_in q (with_member r ps) ≡ (same_ref q r || is_in q ps) = is_in_with q r ps in
    elim (same_ref r p) as (λ b. same_ref r p ≡ b → is_in q (cond b (p ∷ ps) (cond (ref_lt r p) (r ∷ p ∷ ps) (p ∷ with_member r ps))) ≡ (same_ref q r || (same_ref q p || is_in q ps))) [
      | true ↦ λ e. rw (ref_order.equal r p e) (twice (same_ref q p) (is_in q ps))
      | false ↦ λ e. elim (ref_lt r p) as (λ b. is_in q (cond b (r ∷ p ∷ ps) (p ∷ with_member r ps)) ≡ (same_ref q r || (same_ref q p || is_in q ps))) [
        | true ↦ refl
        | false ↦ ap (λ b. same_ref q p || b) rest ∙ swapped (same_ref q p) (same_ref q r) (is_in q ps)
      ]
    ] refl

left_out : (a b : Bool) → (b && not a) ≡ ((a || b) && not a)
left_out true true = refl
left_out true false = refl
left_out false b = refl

pub is_in_without : (q r : Ref) (s : List Ref) → is_in q (without_member r s) ≡ (is_in q s && not (same_ref q r))
unfolding is_in
is_in_without q r [] = refl
is_in_without q r (p ∷ ps) =
    let rest : is_in q (without_member r ps) ≡ (is_in q ps && not (same_ref q r)) = is_in_without q r ps in
    elim (same_ref p r) as (λ b. same_ref p r ≡ b → is_in q (cond (not b) (p ∷ without_member r ps) (without_member r ps)) ≡ ((same_ref q p || is_in q ps) && not (same_ref q r))) [
      | true ↦ λ e. rest ∙ rw (ref_order.equal p r e) (left_out (same_ref q r) (is_in q ps))
      | false ↦ λ e. elim (same_ref q p) as (λ b. same_ref q p ≡ b → (b || is_in q (without_member r ps)) ≡ ((b || is_in q ps) && not (same_ref q r))) [
        | true ↦ λ h. sym (not_from_false _ (subst (λ x. same_ref x r ≡ false) (sym (ref_order.equal q p h)) e))
        | false ↦ λ h. rest
      ] refl
    ] refl
