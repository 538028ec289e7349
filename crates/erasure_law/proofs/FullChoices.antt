-- Choices of a malloc for every field, from those for concrete ones.
use Rattle.std.proofs.Common.{◌≡◌, ℕ, zero, suc, ◌+◌, Bool, true, false, ◌&&◌, List, [], ◌∷◌, Option, Some, None, ⊎_elim, refl, ap, ◌∙◌}
use Rattle.std.specs.Prelude.{pos, if◌then◌else◌}
use Rattle.object_types.specs.declared.values.Value.{Value}
use Rattle.object_types.specs.declared.values.Value.TheVariants.{Int}
use Rattle.method.specs.declared.program.StructInfo.{StructInfo}
use Rattle.method.specs.declared.program.Program.{Program}
use Rattle.object_types.specs.Values.{same_value}
use Rattle.method.specs.Tables.{in_type, zero_of, struct_of, type_of_field}
use Rattle.method.specs.Actions.{no_choices, fields_fit, contents_fit, malloc_fits}
use Rattle.method.proofs.Global.{and_both, both_and}
use Rattle.method.proofs.Empty.{zero_in_type}
use Rattle.machine_laws.proofs.Typed.{or_cases, or_left, or_right, not_both}
use Rattle.plain_machine.specs.PlainCode.{is_ghost_field}
use Rattle.plain_machine.specs.PlainSteps.{concrete_contents, contents_of, prepend, has_contents, plain_malloc_fits}
use Rattle.erasure_law.specs.Choices.{concrete_choices, struct_choices, malloc_choices}

prepended : (v : Value) (o : Option (List Value)) → has_contents (prepend v o) ≡ true → has_contents o ≡ true
prepended v None e = e
prepended v (Some vs) e = refl

-- contents of every field that leave these
pub record Fills (p : Program) (first n : ℕ) (vs : List Value) : Type 0 where
  pub all : List Value
  pub fits : fields_fit p first n all ≡ true
  pub leaves : concrete_choices p first n all ≡ vs

fill : (p : Program) (first n : ℕ) (vs : List Value) → has_contents (concrete_contents p first n vs) ≡ true → Fills p first n vs
fill p first zero [] e = record { all = []; fits = refl; leaves = refl }
fill p first zero (v ∷ vs) e = absurd (not_both false e refl)
fill p first (suc n) [] e = by (is_ghost_field p first) refl (λ k. fill p (first + 1) n [] k) e
  where
    by : (g : Bool) → is_ghost_field p first ≡ g → (has_contents (concrete_contents p (first + 1) n []) ≡ true → Fills p (first + 1) n []) → has_contents (if g then prepend (Int (pos 0)) (concrete_contents p (first + 1) n []) else None) ≡ true → Fills p first (suc n) []
    by true g r e =
        let x = r (prepended (Int (pos 0)) (concrete_contents p (first + 1) n []) e) in
        let z = zero_of (type_of_field p first) in
        record {
          all = z ∷ x.all;
          fits = both_and (in_type (type_of_field p first) z) (fields_fit p (first + 1) n x.all) (zero_in_type (type_of_field p first)) x.fits;
          leaves = ap (λ b. if b then concrete_choices p (first + 1) n x.all else z ∷ concrete_choices p (first + 1) n x.all) g ∙ x.leaves;
        }
    by false g r e = absurd (not_both false e refl)
fill p first (suc n) (v ∷ vs) e = by (is_ghost_field p first) refl (in_type (type_of_field p first) v) refl (λ k. fill p (first + 1) n (v ∷ vs) k) (λ k. fill p (first + 1) n vs k) e
  where
    by : (g : Bool) → is_ghost_field p first ≡ g → (t : Bool) → in_type (type_of_field p first) v ≡ t → (has_contents (concrete_contents p (first + 1) n (v ∷ vs)) ≡ true → Fills p (first + 1) n (v ∷ vs)) → (has_contents (concrete_contents p (first + 1) n vs) ≡ true → Fills p (first + 1) n vs) →
        has_contents (if g then prepend (Int (pos 0)) (concrete_contents p (first + 1) n (v ∷ vs)) else (if t then prepend v (concrete_contents p (first + 1) n vs) else None)) ≡ true → Fills p first (suc n) (v ∷ vs)
    by true g t i r q e =
        let x = r (prepended (Int (pos 0)) (concrete_contents p (first + 1) n (v ∷ vs)) e) in
        let z = zero_of (type_of_field p first) in
        record {
          all = z ∷ x.all;
          fits = both_and (in_type (type_of_field p first) z) (fields_fit p (first + 1) n x.all) (zero_in_type (type_of_field p first)) x.fits;
          leaves = ap (λ b. if b then concrete_choices p (first + 1) n x.all else z ∷ concrete_choices p (first + 1) n x.all) g ∙ x.leaves;
        }
    by false g true i r q e =
        let x = q (prepended v (concrete_contents p (first + 1) n vs) e) in
        record {
          all = v ∷ x.all;
          fits = both_and (in_type (type_of_field p first) v) (fields_fit p (first + 1) n x.all) i x.fits;
          leaves = ap (λ b. if b then concrete_choices p (first + 1) n x.all else v ∷ concrete_choices p (first + 1) n x.all) g ∙ ap (λ us. v ∷ us) x.leaves;
        }
    by false g false i r q e = absurd (not_both false e refl)

fill_struct : (p : Program) (o : Option StructInfo) (vs : List Value) → has_contents (contents_of p o vs) ≡ true → (ws : List Value) × (contents_fit p o ws ≡ true) × (struct_choices p o ws ≡ vs)
fill_struct p None vs e = absurd (not_both false e refl)
fill_struct p (Some s) vs e = let x = fill p s.first_field s.fields vs e in (x.all, x.fits, x.leaves)

none_left : (vs : List Value) → no_choices vs ≡ true → [] ≡ vs
none_left [] e = refl
none_left (v ∷ vs) e = absurd (not_both false e refl)

no_fields : (p : Program) (first n : ℕ) → concrete_choices p first n [] ≡ []
no_fields p first zero = refl
no_fields p first (suc n) = refl

no_struct : (p : Program) (o : Option StructInfo) → struct_choices p o [] ≡ []
no_struct p None = refl
no_struct p (Some s) = no_fields p s.first_field s.fields

pub full_choices : (p : Program) (ty : ℕ) (choices : List Value) → plain_malloc_fits p ty choices ≡ true → (ws : List Value) × (malloc_fits p ty ws ≡ true) × (malloc_choices p ty ws ≡ choices)
full_choices p ty [] e = absurd (not_both false e refl)
full_choices p ty (c ∷ vs) e = ⊎_elim
    (λ x. let b = and_both (same_value c (Int (pos 0))) (no_choices vs) x in
    (c ∷ [], or_left (same_value c (Int (pos 0)) && true) (same_value c (Int (pos 1)) && contents_fit p (struct_of p ty) []) (both_and (same_value c (Int (pos 0))) true b.0 refl), ap (λ ws. c ∷ ws) (no_struct p (struct_of p ty) ∙ none_left vs b.1)))
    (λ x. let b = and_both (same_value c (Int (pos 1))) (has_contents (contents_of p (struct_of p ty) vs)) x in
    let w = fill_struct p (struct_of p ty) vs b.1 in
    (c ∷ w.0, or_right (same_value c (Int (pos 0)) && no_choices w.0) (same_value c (Int (pos 1)) && contents_fit p (struct_of p ty) w.0) (both_and (same_value c (Int (pos 1))) (contents_fit p (struct_of p ty) w.0) b.0 w.1), ap (λ ws. c ∷ ws) w.2))
    (or_cases (same_value c (Int (pos 0)) && no_choices vs) (same_value c (Int (pos 1)) && has_contents (contents_of p (struct_of p ty) vs)) e)
