-- When an approved field differs.
use Rattle.std.proofs.Common.{cond, ◌≡◌, ℕ, zero, suc, ◌+◌, Bool, true, false, not, ◌&&◌, ◌||◌, inl, inr, List, [], ◌∷◌, Option, Some, None, slice_get, refl, sym, ap, subst, ◌∙◌, arith}
use Rattle.std.specs.List.{list_any, find}
use Rattle.std.specs.Option.{option_map}
use Rattle.std.proofs.lemmas.Bool.{both_ways, or_cases, or_left, or_right, and_parts, and_from, eqb-true}
use Rattle.std.proofs.lemmas.Option.{none-some}
use Rattle.object_types.specs.declared.values.Value.{Value}
use Rattle.object_types.specs.declared.fields.Kept.{Kept}
use Rattle.object_types.specs.Fields.{same_field, field_in}
use Rattle.object_types.specs.Heap.{Record}
use Rattle.object_types.proofs.Orders.{value_order}
use Rattle.method.specs.declared.program.FieldInfo.{FieldInfo}
use Rattle.method.specs.declared.program.Program.{Program}
use Rattle.method.specs.Tables.{approved_field, is_approved}
use Rattle.method.specs.WellFormed.{KeepsApproved}
use Rattle.invariants.specs.Counts.{same_kept_value, differs_at, differs_from, approved_differs}

same_itself : (a : Option Value) → same_kept_value a a ≡ true
same_itself None = refl
same_itself (Some v) = value_order.itself v

pub same_is : (a b : Option Value) → same_kept_value a b ≡ true → a ≡ b
same_is None None h = refl
same_is (Some v) (Some w) h = ap Some (value_order.equal v w h)
same_is None (Some w) h = absurd (both_ways _ refl h)
same_is (Some v) None h = absurd (both_ways _ refl h)

-- ---- the table

from_table : (f : ℕ) (is : List FieldInfo) (r s : Record) → differs_from f is r s ≡ true → (g : ℕ) × (approved_field (slice_get is g) ≡ true) × (not (same_kept_value (s.fields (f + g)) (r.fields (f + g))) ≡ true)
from_table f [] r s h = absurd (both_ways _ refl h)
from_table f (i ∷ is) r s h =
    elim (or_cases (i.is_approved && not (same_kept_value (s.fields f) (r.fields f))) (differs_from (suc f) is r s) h) [
      | inl a ↦
          let parts = and_parts i.is_approved (not (same_kept_value (s.fields f) (r.fields f))) a in
          let here : f ≡ f + 0 = omega arith in
          (0, parts.0, subst (λ n. not (same_kept_value (s.fields n) (r.fields n)) ≡ true) here parts.1)
      | inr b ↦
          let more = from_table (suc f) is r s b in
          let there : suc f + more.0 ≡ f + suc more.0 = omega arith in
          (suc more.0, more.1, subst (λ n. not (same_kept_value (s.fields n) (r.fields n)) ≡ true) there more.2)
    ]

to_table : (f : ℕ) (is : List FieldInfo) (r s : Record) (g : ℕ) → approved_field (slice_get is g) ≡ true → not (same_kept_value (s.fields (f + g)) (r.fields (f + g))) ≡ true → differs_from f is r s ≡ true
to_table f [] r s g a h = absurd (both_ways _ refl a)
to_table f (i ∷ is) r s zero a h =
    let here : f + 0 ≡ f = omega arith in
    or_left _ _ (and_from _ _ a (subst (λ n. not (same_kept_value (s.fields n) (r.fields n)) ≡ true) here h))
to_table f (i ∷ is) r s (suc g) a h =
    let there : f + suc g ≡ suc f + g = omega arith in
    or_right _ _ (to_table (suc f) is r s g a (subst (λ n. not (same_kept_value (s.fields n) (r.fields n)) ≡ true) there h))

-- a field differs
pub differs : (p : Program) (r s : Record) (f : ℕ) → differs_at p r s f ≡ true → approved_differs p r s ≡ true
differs p r s f h =
    let parts = and_parts (is_approved p f) (not (same_kept_value (s.fields f) (r.fields f))) h in
    let there : f ≡ 0 + f = omega arith in
    to_table 0 p.fields.items r s f parts.0 (subst (λ n. not (same_kept_value (s.fields n) (r.fields n)) ≡ true) there parts.1)

pub approved_same : (p : Program) (r s : Record) → approved_differs p r s ≡ false → KeepsApproved p r s
approved_same p r s h = record { fields = λ f a. by_test f a (same_kept_value (s.fields f) (r.fields f)) refl }
  where
    by_test : (f : ℕ) → is_approved p f ≡ true → (b : Bool) → same_kept_value (s.fields f) (r.fields f) ≡ b → s.fields f ≡ r.fields f
    by_test f a true e = same_is (s.fields f) (r.fields f) e
    by_test f a false e = absurd (both_ways _ h (differs p r s f (and_from _ _ a (ap not e))))

pub approved_apart : (p : Program) (r s : Record) → approved_differs p r s ≡ true → KeepsApproved p r s → ⊥
approved_apart p r s h same =
    let d = from_table 0 p.fields.items r s h in
    let there : 0 + d.0 ≡ d.0 = omega arith in
    let e : s.fields (0 + d.0) ≡ r.fields (0 + d.0) = subst (λ n. s.fields n ≡ r.fields n) (sym there) (same.fields d.0 d.1) in
    both_ways _ (ap not (subst (λ a. same_kept_value (s.fields (0 + d.0)) a ≡ true) e (same_itself (s.fields (0 + d.0))))) d.2

-- ---- the kept fields

some_differs : (p : Program) (r s : Record) (ks : List Kept) → list_any (λ k. differs_at p r s k.field) ks ≡ true → approved_differs p r s ≡ true
some_differs p r s [] h = absurd (both_ways _ refl h)
some_differs p r s (k ∷ ks) h = elim (or_cases (differs_at p r s k.field) (list_any (λ k. differs_at p r s k.field) ks) h) [ inl a ↦ differs p r s k.field a | inr b ↦ some_differs p r s ks b ]

-- a field that is kept is one of those that are looked at
kept_looked : (p : Program) (r s : Record) (ks : List Kept) (f : ℕ) (v : Value) → field_in ks f ≡ Some v → list_any (λ k. differs_at p r s k.field) ks ≡ false → differs_at p r s f ≡ false
kept_looked p r s [] f v e h = absurd (none-some v e)
kept_looked p r s (k ∷ ks) f v e h = by_test (same_field f k.field) refl e (kept_looked p r s ks f v)
  where
    parts : (a b : Bool) → (a || b) ≡ false → (a ≡ false) × (b ≡ false)
    parts true b g = absurd (both_ways _ g refl)
    parts false b g = (refl, g)

    by_test : (b : Bool) → same_field f k.field ≡ b → option_map (λ (k : Kept). k.value) (cond b (Some k) (find (λ k. same_field f k.field) ks)) ≡ Some v → (field_in ks f ≡ Some v → list_any (λ k. differs_at p r s k.field) ks ≡ false → differs_at p r s f ≡ false) → differs_at p r s f ≡ false
    by_test true g i more = let same : k.field ≡ f = sym (eqb-true f k.field g) in subst (λ n. differs_at p r s n ≡ false) same (parts (differs_at p r s k.field) (list_any (λ k. differs_at p r s k.field) ks) h).0
    by_test false g i more = more i (parts (differs_at p r s k.field) (list_any (λ k. differs_at p r s k.field) ks) h).1

pub both_looked : (p : Program) (r s : Record) (ks js : List Kept) → ((f : ℕ) → r.fields f ≡ field_in ks f) → ((f : ℕ) → s.fields f ≡ field_in js f) → (list_any (λ k. differs_at p r s k.field) ks || list_any (λ k. differs_at p r s k.field) js) ≡ approved_differs p r s
both_looked p r s ks js at_r at_s = by_test (list_any (λ k. differs_at p r s k.field) ks) refl (list_any (λ k. differs_at p r s k.field) js) refl (approved_differs p r s) refl
  where
    none : list_any (λ k. differs_at p r s k.field) ks ≡ false → list_any (λ k. differs_at p r s k.field) js ≡ false → approved_differs p r s ≡ true → ⊥
    none a b h =
        let d = from_table 0 p.fields.items r s h in
        let there : 0 + d.0 ≡ d.0 = omega arith in
        let at : differs_at p r s d.0 ≡ true = and_from _ _ d.1 (subst (λ n. not (same_kept_value (s.fields n) (r.fields n)) ≡ true) there d.2) in
        go d.0 at (r.fields d.0) refl (s.fields d.0) refl
      where
        go : (f : ℕ) → differs_at p r s f ≡ true → (x : Option Value) → r.fields f ≡ x → (y : Option Value) → s.fields f ≡ y → ⊥
        go f at (Some v) e y g = both_ways _ (kept_looked p r s ks f v (sym (at_r f) ∙ e) a) at
        go f at None e (Some w) g = both_ways _ (kept_looked p r s js f w (sym (at_s f) ∙ g) b) at
        go f at None e None g = both_ways _ (ap not (λ i. same_kept_value (g i) (e i))) (and_parts (is_approved p f) (not (same_kept_value (s.fields f) (r.fields f))) at).1

    by_test : (a : Bool) → list_any (λ k. differs_at p r s k.field) ks ≡ a → (b : Bool) → list_any (λ k. differs_at p r s k.field) js ≡ b → (c : Bool) → approved_differs p r s ≡ c → (a || b) ≡ c
    by_test true g b h true i = refl
    by_test true g b h false i = absurd (both_ways _ i (some_differs p r s ks g))
    by_test false g true h true i = refl
    by_test false g true h false i = absurd (both_ways _ i (some_differs p r s js h))
    by_test false g false h true i = absurd (none g h i)
    by_test false g false h false i = refl

module _ (p : Program) (r s : Record) (ks js : List Kept) (at_r : (f : ℕ) → r.fields f ≡ field_in ks f) (at_s : (f : ℕ) → s.fields f ≡ field_in js f) where
  pub first_differs : list_any (λ k. differs_at p r s k.field) ks ≡ true → list_any (λ k. differs_at p r s k.field) ks ≡ approved_differs p r s
  first_differs h = h ∙ (ap (λ b. b || list_any (λ k. differs_at p r s k.field) js) (sym h) ∙ both_looked p r s ks js at_r at_s)

  pub second_differs : list_any (λ k. differs_at p r s k.field) ks ≡ false → list_any (λ k. differs_at p r s k.field) js ≡ approved_differs p r s
  second_differs h = ap (λ b. b || list_any (λ k. differs_at p r s k.field) js) (sym h) ∙ both_looked p r s ks js at_r at_s
