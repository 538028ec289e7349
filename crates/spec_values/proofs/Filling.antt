-- The values of holes, compared with others from a place on.
use Rattle.std.proofs.Common.{◌≡◌, ℕ, ◌+◌, ◌<◌, ◌≤◌, ◌⊎◌, inl, inr, true, false, List, length, map, get_or, sym, ◌∙◌, ap, eqb}
use Rattle.std.proofs.lemmas.List.{get_or-map, length-map}
use Rattle.object_types.specs.declared.values.Value.{Value}
use Rattle.object_types.specs.Values.{same_value, same_values}
use Rattle.object_types.proofs.Rows.{From, from_next, differ_same, same_at_end}

module _ {X : Type 0} (f : X → Value) (xs : List X) (values : List Value) where
  pub filled_next : (i : ℕ) (d : X) (v e : Value) → From (map f xs) values i → i < length xs → i < length values → v ≡ f (get_or xs i d) → same_value v (get_or values i e) ≡ true → From (map f xs) values (i + 1)
  filled_next i d v e from l r is same =
      from_next (map f xs) values i e e from (rw length-map l) r (ap (λ w. same_value w (get_or values i e)) (get_or-map f xs i d e l ∙ sym is) ∙ same)

  pub filled_apart : (i : ℕ) (d : X) (v e : Value) → From (map f xs) values i → i < length xs → i < length values → v ≡ f (get_or xs i d) → same_value v (get_or values i e) ≡ false → same_values (map f xs) values ≡ false
  filled_apart i d v e from l r is apart =
      differ_same (map f xs) values i e e from (rw length-map l) r (ap (λ w. same_value w (get_or values i e)) (get_or-map f xs i d e l ∙ sym is) ∙ apart)

  pub filled_end : (i : ℕ) → From (map f xs) values i → (length xs ≤ i) ⊎ (length values ≤ i) → eqb (length xs) (length values) ≡ same_values (map f xs) values
  filled_end i from over =
      ap (λ n. eqb n (length values)) (sym (length-map xs f)) ∙ same_at_end (map f xs) values i from (elim over [ inl o ↦ inl (rw length-map o) | inr o ↦ inr o ])
