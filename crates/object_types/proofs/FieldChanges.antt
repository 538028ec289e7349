-- The kept fields before and after a change at a place.
use Rattle.std.proofs.Common.{◌≡◌, ℕ, Bool, true, false, cond, ◌==◌, List, [], ◌∷◌, set, get_or, Some, None, Option, refl, sym, ap, subst, ◌∙◌}
use Rattle.std.specs.Prelude.{nat_lt}
use Rattle.std.specs.List.{insert, remove}
use Rattle.std.specs.Option.{option_map}
use Rattle.std.proofs.lemmas.Bool.{not_from_false, and_parts, and_from, eq-eqb, eqb-true}
use Rattle.object_types.specs.declared.values.Value.{Value}
use Rattle.object_types.specs.declared.fields.Kept.{Kept}
use Rattle.object_types.specs.Values.{is_zero, kept, same_value}
use Rattle.object_types.specs.Places.{is_ordered, replaced, taken_out, IsAt, GoesAt}
use Rattle.object_types.specs.Sets.{every}
use Rattle.object_types.specs.Fields.{field_of, same_field, same_kept, kept_lt, is_set, field_in, with_kept}
use Rattle.object_types.proofs.Orders.{nat_order, value_order}
use Rattle.object_types.proofs.Placed.{tail_ordered, none_before_first, none_behind_first, set_at, insert_at, remove_at, absent_out, found_at, absent_at, ordered_replaced, ordered_filter, every_replaced, every_filter, at_key_replaced, at_key_taken_out}

abbrev pub of : ℕ → Value → Kept
of f v = record { field = f; value = v }

pub field_found : (f : ℕ) (ks : List Kept) (i : ℕ) (d : Kept) → IsAt field_of nat_lt same_field f ks i → field_in ks f ≡ Some (get_or ks i d).value
field_found f ks i d a = ap (option_map (λ (k : Kept). k.value)) (found_at field_of nat_lt same_field nat_order f ks i d a)

pub field_absent : (f : ℕ) (ks : List Kept) (i : ℕ) → is_ordered kept_lt ks ≡ true → GoesAt field_of nat_lt same_field f ks i → field_in ks f ≡ None
field_absent f ks i o a = ap (option_map (λ (k : Kept). k.value)) (absent_at field_of nat_lt same_field nat_order f ks i o a)

pub field_leaves : (f : ℕ) (v : Value) (ks : List Kept) (i : ℕ) → is_ordered kept_lt ks ≡ true → IsAt field_of nat_lt same_field f ks i → is_zero v ≡ true → remove ks i ≡ with_kept f v ks
field_leaves f v ks i o a z = rw z (remove_at field_of nat_lt same_field nat_order f ks i o a)

pub field_changes : (f : ℕ) (v : Value) (ks : List Kept) (i : ℕ) → IsAt field_of nat_lt same_field f ks i → is_zero v ≡ false → set ks i (of f v) ≡ with_kept f v ks
field_changes f v ks i a z = rw z (set_at field_of nat_lt same_field nat_order (of f v) ks i a)

pub field_stays_out : (f : ℕ) (v : Value) (ks : List Kept) (i : ℕ) → is_ordered kept_lt ks ≡ true → GoesAt field_of nat_lt same_field f ks i → is_zero v ≡ true → ks ≡ with_kept f v ks
field_stays_out f v ks i o a z = rw z (sym (absent_out field_of nat_lt same_field nat_order f ks i o a))

pub field_enters : (f : ℕ) (v : Value) (ks : List Kept) (i : ℕ) → GoesAt field_of nat_lt same_field f ks i → is_zero v ≡ false → insert ks i (of f v) ≡ with_kept f v ks
field_enters f v ks i a z = rw z (insert_at field_of nat_lt same_field nat_order (of f v) ks i a)

pub with_kept_ordered : (f : ℕ) (v : Value) (ks : List Kept) → is_ordered kept_lt ks ≡ true → is_ordered kept_lt (with_kept f v ks) ≡ true
with_kept_ordered f v ks o =
    elim (is_zero v) as (λ b. is_ordered kept_lt (cond b (taken_out field_of same_field f ks) (replaced field_of nat_lt same_field (of f v) ks)) ≡ true) [
      | true ↦ ordered_filter field_of nat_lt same_field nat_order _ ks o
      | false ↦ ordered_replaced field_of nat_lt same_field nat_order (of f v) ks o
    ]

pub with_kept_set : (f : ℕ) (v : Value) (ks : List Kept) → every is_set ks ≡ true → every is_set (with_kept f v ks) ≡ true
with_kept_set f v ks h =
    elim (is_zero v) as (λ b. is_zero v ≡ b → every is_set (cond b (taken_out field_of same_field f ks) (replaced field_of nat_lt same_field (of f v) ks)) ≡ true) [
      | true ↦ λ e. every_filter is_set _ ks h
      | false ↦ λ e. every_replaced field_of nat_lt same_field nat_order is_set (of f v) ks (not_from_false _ e) h
    ] refl

pushed : (b : Bool) (x y : Option Kept) → option_map (λ (k : Kept). k.value) (cond b x y) ≡ cond b (option_map (λ (k : Kept). k.value) x) (option_map (λ (k : Kept). k.value) y)
pushed true x y = refl
pushed false x y = refl

-- what is kept of each field behind a change of one
pub field_in_with_kept : (f : ℕ) (v : Value) (ks : List Kept) (g : ℕ) → field_in (with_kept f v ks) g ≡ cond (same_field g f) (kept v) (field_in ks g)
field_in_with_kept f v ks g =
    elim (is_zero v) as (λ b. field_in (cond b (taken_out field_of same_field f ks) (replaced field_of nat_lt same_field (of f v) ks)) g ≡ cond (same_field g f) (cond b None (Some v)) (field_in ks g)) [
      | true ↦ ap (option_map (λ (k : Kept). k.value)) (at_key_taken_out field_of nat_lt same_field nat_order g f ks) ∙ pushed (same_field g f) None _
      | false ↦ ap (option_map (λ (k : Kept). k.value)) (at_key_replaced field_of nat_lt same_field nat_order g (of f v) ks) ∙ pushed (same_field g f) (Some (of f v)) _
    ]

pub kept_equal : (a b : Kept) → same_kept a b ≡ true → a ≡ b
kept_equal a b h =
    let parts = and_parts (a.field == b.field) (same_value a.value b.value) h in
    let fields : a.field ≡ b.field = eqb-true _ _ parts.0 in
    let values : a.value ≡ b.value = value_order.equal _ _ parts.1 in
    λ i. record { field = fields i; value = values i }

pub kept_itself : (a : Kept) → same_kept a a ≡ true
kept_itself a = and_from _ _ (eq-eqb _ _ refl) (value_order.itself a.value)

pub head_field : (k : Kept) (ks : List Kept) → field_in (k ∷ ks) k.field ≡ Some k.value
head_field k ks = rw (eq-eqb k.field k.field refl) refl

-- where every look-up finds nothing, nothing is kept
pub none_kept : (ks : List Kept) → ((f : ℕ) → field_in ks f ≡ None) → ks ≡ []
none_kept [] h = refl
none_kept (k ∷ ks) h = let none = sym (head_field k ks) ∙ h k.field in cc

field_below : (k : Kept) (ks : List Kept) (f : ℕ) → is_ordered kept_lt (k ∷ ks) ≡ true → nat_lt f k.field ≡ true → field_in (k ∷ ks) f ≡ None
field_below k ks f o l = ap (option_map (λ (k : Kept). k.value)) (none_before_first field_of nat_lt same_field nat_order f k ks o l)

field_behind : (k : Kept) (ks : List Kept) → is_ordered kept_lt (k ∷ ks) ≡ true → field_in ks k.field ≡ None
field_behind k ks o = ap (option_map (λ (k : Kept). k.value)) (none_behind_first field_of nat_lt same_field nat_order k ks o)

behind_head : (k : Kept) (ks : List Kept) (f : ℕ) → same_field f k.field ≡ false → field_in (k ∷ ks) f ≡ field_in ks f
behind_head k ks f s = rw s refl

-- kept fields with the same look-ups are the same
pub look_ups_determine : (ks ls : List Kept) → is_ordered kept_lt ks ≡ true → is_ordered kept_lt ls ≡ true → ((f : ℕ) → field_in ks f ≡ field_in ls f) → ks ≡ ls
look_ups_determine [] ls o p h = sym (none_kept ls (λ f. sym (h f)))
look_ups_determine (k ∷ ks) [] o p h = none_kept (k ∷ ks) h
look_ups_determine (k ∷ ks) (l ∷ ls) o p h =
    let next : ((f : ℕ) → field_in ks f ≡ field_in ls f) → ks ≡ ls = look_ups_determine ks ls (tail_ordered field_of nat_lt same_field nat_order k ks o) (tail_ordered field_of nat_lt same_field nat_order l ls p) in
    elim (same_field k.field l.field) as (λ b. same_field k.field l.field ≡ b → k ∷ ks ≡ l ∷ ls) [
      | true ↦ λ e.
          let fields : k.field ≡ l.field = eqb-true _ _ e in
          let at_head : Some k.value ≡ Some l.value = sym (head_field k ks) ∙ h k.field ∙ ap (field_in (l ∷ ls)) fields ∙ head_field l ls in
          let values : k.value ≡ l.value = cc in
          let head : k ≡ l = λ i. record { field = fields i; value = values i } in
          let rest : ks ≡ ls = next (λ f. elim (same_field f k.field) as (λ b. same_field f k.field ≡ b → field_in ks f ≡ field_in ls f) [
            | true ↦ λ s.
                let f_is : f ≡ k.field = eqb-true _ _ s in
                ap (field_in ks) f_is ∙ field_behind k ks o ∙ sym (field_behind l ls p) ∙ ap (field_in ls) (sym fields ∙ sym f_is)
            | false ↦ λ s. sym (behind_head k ks f s) ∙ h f ∙ behind_head l ls f (subst (λ n. same_field f n ≡ false) fields s)
          ] refl) in
          λ i. head i ∷ rest i
      | false ↦ λ e. elim (nat_lt k.field l.field) as (λ b. nat_lt k.field l.field ≡ b → k ∷ ks ≡ l ∷ ls) [
        | true ↦ λ less. let none = sym (head_field k ks) ∙ h k.field ∙ field_below l ls k.field p less in cc
        | false ↦ λ more. let none = sym (head_field l ls) ∙ sym (h l.field) ∙ field_below k ks l.field o (nat_order.total _ _ e more) in cc
      ] refl
    ] refl
