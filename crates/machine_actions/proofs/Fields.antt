-- How the values of an object's fields are gone through.
use Rattle.std.proofs.Common.{◌≡◌, ℕ, zero, suc, ◌+◌, ◌-◌, ◌<◌, ◌≤◌, Bool, true, false, ◌&&◌, List, [], ◌∷◌, length, get_or, drop, refl, sym, ap, ◌∙◌, arith, drop-cons, add-one}
use Rattle.std.proofs.lemmas.List.{drop_all}
use Rattle.object_types.specs.declared.values.Value.{Value}
use Rattle.method.specs.declared.program.Program.{Program}
use Rattle.method.specs.Tables.{in_type, type_of_field}
use Rattle.method.specs.Actions.{fields_fit}

pub fields_apart : (p : Program) (vs : List Value) (first n : ℕ) → (length vs ≡ n → ⊥) → fields_fit p first n vs ≡ false
fields_apart p [] first zero h = absurd (h refl)
fields_apart p [] first (suc n) h = refl
fields_apart p (v ∷ vs) first zero h = refl
fields_apart p (v ∷ vs) first (suc n) h = ap (λ b. in_type (type_of_field p first) v && b) (fields_apart p vs (first + 1) n (λ e. h (ap suc e))) ∙ and_false (in_type (type_of_field p first) v)
  where
    and_false : (b : Bool) → (b && false) ≡ false
    and_false true = refl
    and_false false = refl

module _ (p : Program) (vs : List Value) (first n i : ℕ) (d : Value) (so_far : fields_fit p (first + i) (n - i) (drop i vs) ≡ fields_fit p first n vs) (many : length vs ≡ n) where
  module _ (lt : i < length vs) where
    here : (in_type (type_of_field p (first + i)) (get_or vs i d) && fields_fit p (first + (i + 1)) (n - (i + 1)) (drop (i + 1) vs)) ≡ fields_fit p first n vs
    here =
        let far : first + (i + 1) ≡ first + i + 1 = omega arith in
        let left : suc (n - (i + 1)) ≡ n - i = omega (arith, lt, many) in
        (λ j. in_type (type_of_field p (first + i)) (get_or vs i d) && fields_fit p (far j) (n - (i + 1)) (drop (add-one i j) vs))
        ∙ (λ j. fields_fit p (first + i) (left j) (sym (drop-cons vs i d lt) j))
        ∙ so_far

    pub fields_next : in_type (type_of_field p (first + i)) (get_or vs i d) ≡ true → fields_fit p (first + (i + 1)) (n - (i + 1)) (drop (i + 1) vs) ≡ fields_fit p first n vs
    fields_next e = ap (λ b. b && fields_fit p (first + (i + 1)) (n - (i + 1)) (drop (i + 1) vs)) (sym e) ∙ here

    pub fields_stop : in_type (type_of_field p (first + i)) (get_or vs i d) ≡ false → fields_fit p first n vs ≡ false
    fields_stop e = sym here ∙ ap (λ b. b && fields_fit p (first + (i + 1)) (n - (i + 1)) (drop (i + 1) vs)) e

  pub fields_end : length vs ≤ i → fields_fit p first n vs ≡ true
  fields_end ge = let none : n - i ≡ 0 = omega (arith, ge, many) in sym so_far ∙ λ j. fields_fit p (first + i) (none j) (drop_all i vs ge j)
