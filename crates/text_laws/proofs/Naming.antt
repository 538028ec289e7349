-- Which variables an annotation names, and whether the result: those that its names hold, and, in a contract, parameters alone.
use Rattle.std.proofs.Common.{◌≡◌, ℕ, Bool, true, false, ◌&&◌, ◌||◌, nat_lt, List, [], ◌∷◌, Option, Some, None, slice_get, is_some, refl}
use Rattle.std.proofs.lemmas.Bool.{and_parts, and_from}
use Rattle.object_types.specs.Sets.{every}
use Rattle.method.specs.declared.program.DeclaredType.{DeclaredType}
use Rattle.method.specs.declared.program.Sort.{Sort}
use Rattle.method.specs.declared.program.Hole.{Hole}
use Rattle.method.specs.declared.program.Hole.TheVariants.{OfVariable, OfBound, OfMe, OfThis, OfResult}
use Rattle.method.specs.declared.program.Spec.{Spec, Row_of-Spec, end_of-Spec, more_of-Spec}
use Rattle.method.specs.declared.program.Spec.TheVariants as s
use Rattle.method.specs.declared.program.FunctionInfo.{FunctionInfo}
use Rattle.method.specs.declared.program.Program.{Program}
use Rattle.method.specs.Scopes.{known, hole_in, spec_in, spec_row_in}
use Rattle.method.specs.Typing.{compares_refs, and_then}
use Rattle.condition_meaning.specs.Fits.{hole_names, names, row_names}
use Rattle.typed_program.specs.Trees.{Shape}
use Rattle.typed_program.specs.Views as seen
use Rattle.typed_laws.specs.Fits.{Meant, Whole, Referred, Names, with_bound, is_whole, is_reference, is_pointer, is_claim, both, only_if, joined, field_meant, variable_type, hole_type, has_sort, holes_fit, shape_fits, conjunct_fits, meaning, all_mean, all_refer}
use Rattle.method.specs.declared.program.DeclaredType.TheVariants.{Object}
use Rattle.text_laws.proofs.Fitting.{first, kept, row_first, given, typed, refer_mean}

module _ (few : ℕ) (result : Bool) where
  -- names of the first variables alone, and of the result where it is allowed
  pub record Naming (n : Names) : Type 0 where
    pub variables : (i : ℕ) (ty : DeclaredType) → variable_type (slice_get n.variables i) ≡ Some ty → nat_lt i few ≡ true
    pub value : (ty : DeclaredType) → n.result ≡ Some ty → result ≡ true

  bound_naming : (n : Names) (ty : DeclaredType) → Naming n → Naming (with_bound ty n)
  bound_naming n ty k = record { variables = k.variables; value = k.value }

  typed_type : (o : Option DeclaredType) (u : Sort) → has_sort o u ≡ true → (ty : DeclaredType) × (o ≡ Some ty)
  typed_type None u h = absurd (cc)
  typed_type (Some ty) u h = (ty, refl)

  hole_there : (n : Names) → Naming n → (h : Hole) (u : Sort) → has_sort (hole_type n h) u ≡ true → hole_names few result h ≡ true
  hole_there n k (OfVariable i) u e = let z = typed_type (variable_type (slice_get n.variables i)) u e in k.variables i z.0 z.1
  hole_there n k (OfBound i) u e = refl
  hole_there n k OfMe u e = refl
  hole_there n k OfThis u e = refl
  hole_there n k OfResult u e = let z = typed_type n.result u e in k.value z.0 z.1

  holes_there : (n : Names) → Naming n → (hs : List Hole) (us : List Sort) → holes_fit n hs us ≡ true → every (hole_names few result) hs ≡ true
  holes_there n k [] us e = refl
  holes_there n k (h ∷ hs) [] e = absurd (cc)
  holes_there n k (h ∷ hs) (u ∷ us) e = let z = and_parts (has_sort (hole_type n h) u) (holes_fit n hs us) e in and_from _ _ (hole_there n k h u z.0) (holes_there n k hs us z.1)

  shape_names : (n : Names) → Naming n → (hs : List Hole) (o : Option Shape) → shape_fits n hs o ≡ true → every (hole_names few result) hs ≡ true
  shape_names n k hs None e = absurd (cc)
  shape_names n k hs (Some z) e = holes_there n k hs z.holes e

  module _ (p : Program) where
    mutual
      pub names_by_meaning : (e : Spec) (n : Names) (v : Meant) → Naming n → meaning (seen.program p) n (seen.spec e) ≡ Some v → names few result e ≡ true
      names_by_meaning (s.Number z) n v k h = refl
      names_by_meaning (s.Truth b) n v k h = refl
      names_by_meaning s.Null n v k h = refl
      names_by_meaning (s.Bound j) n v k h = refl
      names_by_meaning s.This n v k h = refl
      names_by_meaning s.Me n v k h = refl
      names_by_meaning (s.Variable j) n v k h = let z = typed (variable_type (slice_get n.variables j)) v h in k.variables j z.0 z.1
      names_by_meaning s.Result n v k h = let z = typed n.result v h in k.value z.0 z.1
      names_by_meaning (s.Field' q e f) n v k h = let z = first (meaning (seen.program p) n (seen.spec e)) (λ u. field_meant u (slice_get (seen.program p).fields f)) v h in names_by_meaning e n z.0 k z.1
      names_by_meaning (s.Closed' q e) n v k h = let z = first (meaning (seen.program p) n (seen.spec e)) (λ u. only_if (is_pointer u) Whole) v h in names_by_meaning e n z.0 k z.1
      names_by_meaning (s.ClaimCount' q e) n v k h = let z = first (meaning (seen.program p) n (seen.spec e)) (λ u. only_if (is_pointer u) Whole) v h in names_by_meaning e n z.0 k z.1
      names_by_meaning (s.Not' q e) n v k h = let z = first (meaning (seen.program p) n (seen.spec e)) (λ u. Some Whole) v h in names_by_meaning e n z.0 k z.1
      names_by_meaning (s.Negate' q e) n v k h = let z = first (meaning (seen.program p) n (seen.spec e)) (λ u. only_if (is_whole u) Whole) v h in names_by_meaning e n z.0 k z.1
      names_by_meaning (s.Wrapped' q e) n v k h = let z = first (meaning (seen.program p) n (seen.spec e)) (λ u. only_if (is_reference u) Whole) v h in names_by_meaning e n z.0 k z.1
      names_by_meaning (s.Wrapped0' q e) n v k h = let z = first (meaning (seen.program p) n (seen.spec e)) (λ u. only_if (is_reference u) Whole) v h in names_by_meaning e n z.0 k z.1
      names_by_meaning (s.Mutable' q e) n v k h = let z = first (meaning (seen.program p) n (seen.spec e)) (λ u. only_if (is_reference u) Whole) v h in names_by_meaning e n z.0 k z.1
      names_by_meaning (s.Fresh' q e) n v k h = let z = first (meaning (seen.program p) n (seen.spec e)) (λ u. only_if (is_reference u) Whole) v h in names_by_meaning e n z.0 k z.1
      names_by_meaning (s.Lists' q e) n v k h = let z = first (meaning (seen.program p) n (seen.spec e)) (λ u. only_if (is_pointer u) Whole) v h in names_by_meaning e n z.0 k z.1
      names_by_meaning (s.Owner' q e) n v k h = let z = first (meaning (seen.program p) n (seen.spec e)) (λ u. only_if (is_pointer u) (Referred Object)) v h in names_by_meaning e n z.0 k z.1
      names_by_meaning (s.Old' q e) n v k h = names_by_meaning e n v k h
      names_by_meaning (s.Unchanged' q e) n v k h = let z = first (meaning (seen.program p) n (seen.spec e)) (λ u. Some Whole) v h in names_by_meaning e n z.0 k z.1
      names_by_meaning (s.Member' q a r b) n v k h =
          let z = first (meaning (seen.program p) n (seen.spec a)) (λ u. and_then (meaning (seen.program p) n (seen.spec b)) (λ x. only_if (is_reference u && is_pointer x) Whole)) v h in
          let y = first (meaning (seen.program p) n (seen.spec b)) (λ x. only_if (is_reference z.0 && is_pointer x) Whole) v z.2 in
          and_from _ _ (names_by_meaning a n z.0 k z.1) (names_by_meaning b n y.0 k y.1)
      names_by_meaning (s.Arithmetic' op q a r b) n v k h =
          let z = first (meaning (seen.program p) n (seen.spec a)) (λ u. and_then (meaning (seen.program p) n (seen.spec b)) (λ x. only_if (both is_whole u x) Whole)) v h in
          let y = first (meaning (seen.program p) n (seen.spec b)) (λ x. only_if (both is_whole z.0 x) Whole) v z.2 in
          and_from _ _ (names_by_meaning a n z.0 k z.1) (names_by_meaning b n y.0 k y.1)
      names_by_meaning (s.Compare' op q a r b) n v k h =
          let z = first (meaning (seen.program p) n (seen.spec a)) (λ u. and_then (meaning (seen.program p) n (seen.spec b)) (λ x. only_if (both is_whole u x || (compares_refs op && both is_reference u x)) Whole)) v h in
          let y = first (meaning (seen.program p) n (seen.spec b)) (λ x. only_if (both is_whole z.0 x || (compares_refs op && both is_reference z.0 x)) Whole) v z.2 in
          and_from _ _ (names_by_meaning a n z.0 k z.1) (names_by_meaning b n y.0 k y.1)
      names_by_meaning (s.And' q a r b) n v k h =
          let z = first (meaning (seen.program p) n (seen.spec a)) (λ u. and_then (meaning (seen.program p) n (seen.spec b)) (λ x. Some Whole)) v h in
          let y = first (meaning (seen.program p) n (seen.spec b)) (λ x. Some Whole) v z.2 in
          and_from _ _ (names_by_meaning a n z.0 k z.1) (names_by_meaning b n y.0 k y.1)
      names_by_meaning (s.Or' q a r b) n v k h =
          let z = first (meaning (seen.program p) n (seen.spec a)) (λ u. and_then (meaning (seen.program p) n (seen.spec b)) (λ x. Some Whole)) v h in
          let y = first (meaning (seen.program p) n (seen.spec b)) (λ x. Some Whole) v z.2 in
          and_from _ _ (names_by_meaning a n z.0 k z.1) (names_by_meaning b n y.0 k y.1)
      names_by_meaning (s.Implies' q a r b) n v k h =
          let z = first (meaning (seen.program p) n (seen.spec a)) (λ u. and_then (meaning (seen.program p) n (seen.spec b)) (λ x. Some Whole)) v h in
          let y = first (meaning (seen.program p) n (seen.spec b)) (λ x. Some Whole) v z.2 in
          and_from _ _ (names_by_meaning a n z.0 k z.1) (names_by_meaning b n y.0 k y.1)
      names_by_meaning (s.Iff' q a r b) n v k h =
          let z = first (meaning (seen.program p) n (seen.spec a)) (λ u. and_then (meaning (seen.program p) n (seen.spec b)) (λ x. Some Whole)) v h in
          let y = first (meaning (seen.program p) n (seen.spec b)) (λ x. Some Whole) v z.2 in
          and_from _ _ (names_by_meaning a n z.0 k z.1) (names_by_meaning b n y.0 k y.1)
      names_by_meaning (s.ClaimsObject' q a r b) n v k h =
          let z = first (meaning (seen.program p) n (seen.spec a)) (λ u. and_then (meaning (seen.program p) n (seen.spec b)) (λ x. only_if (is_claim u && is_reference x) Whole)) v h in
          let y = first (meaning (seen.program p) n (seen.spec b)) (λ x. only_if (is_claim z.0 && is_reference x) Whole) v z.2 in
          and_from _ _ (names_by_meaning a n z.0 k z.1) (names_by_meaning b n y.0 k y.1)
      names_by_meaning (s.Choose' q a r b t c) n v k h =
          let z = first (meaning (seen.program p) n (seen.spec a)) (λ u. and_then (meaning (seen.program p) n (seen.spec b)) (λ x. and_then (meaning (seen.program p) n (seen.spec c)) (λ y. joined x y))) v h in
          let y = first (meaning (seen.program p) n (seen.spec b)) (λ x. and_then (meaning (seen.program p) n (seen.spec c)) (λ y. joined x y)) v z.2 in
          let x = first (meaning (seen.program p) n (seen.spec c)) (λ x. joined y.0 x) v y.2 in
          and_from _ _ (names_by_meaning a n z.0 k z.1) (and_from _ _ (names_by_meaning b n y.0 k y.1) (names_by_meaning c n x.0 k x.1))
      names_by_meaning (s.Claims' q c m row) n v k h = let z = row_first (meaning (seen.program p) n (seen.spec c)) is_claim (all_mean (seen.program p) n (seen.row row)) v h in and_from _ _ (names_by_meaning c n z.0 k z.1) (row_names_by_meaning row n k z.2)
      names_by_meaning (s.Has c) n v k h = let z = kept (conjunct_fits (seen.program p) n (seen.conjunct c)) Whole v h in shape_names n k c.holes.items (slice_get (seen.program p).shapes c.shape) z.0
      names_by_meaning (s.ForAll' m ty q e r body) n v k h =
          let z = first (meaning (seen.program p) n (seen.spec e)) (λ u. and_then (meaning (seen.program p) (with_bound ty n) (seen.spec body)) (λ x. only_if (is_pointer u) Whole)) v h in
          let y = first (meaning (seen.program p) (with_bound ty n) (seen.spec body)) (λ x. only_if (is_pointer z.0) Whole) v z.2 in
          and_from _ _ (names_by_meaning e n z.0 k z.1) (names_by_meaning body (with_bound ty n) y.0 (bound_naming n ty k) y.1)
      names_by_meaning (s.Exists' m ty q e l row) n v k h =
          let z = row_first (meaning (seen.program p) n (seen.spec e)) is_pointer (all_mean (seen.program p) (with_bound ty n) (seen.row row)) v h in
          and_from _ _ (names_by_meaning e n z.0 k z.1) (row_names_by_meaning row (with_bound ty n) (bound_naming n ty k) z.2)
      names_by_meaning (s.ClaimsOnly' m q c l row) n v k h =
          let z = row_first (meaning (seen.program p) n (seen.spec c)) is_claim (all_refer (seen.program p) n (seen.row row)) v h in
          and_from _ _ (names_by_meaning c n z.0 k z.1) (row_names_by_meaning row n k (refer_mean (seen.program p) n (seen.row row) z.2))

      row_names_by_meaning : {m : _} (row : Row_of-Spec m) (n : Names) → Naming n → all_mean (seen.program p) n (seen.row row) ≡ true → row_names few result row ≡ true
      row_names_by_meaning end_of-Spec n k h = refl
      row_names_by_meaning (more_of-Spec e row) n k h =
          let z = and_parts (is_some (meaning (seen.program p) n (seen.spec e))) (all_mean (seen.program p) n (seen.row row)) h in
          let y = given (meaning (seen.program p) n (seen.spec e)) z.0 in
          and_from _ _ (names_by_meaning e n y.0 k y.1) (row_names_by_meaning row n k z.1)

-- in a contract, where parameters alone are known
module _ (p : Program) (f : FunctionInfo) (few : ℕ) (result : Bool) where
  parameter : (i : ℕ) → known p f [] i ≡ true → nat_lt i f.parameters ≡ true
  parameter i h = by (nat_lt i f.parameters) h
    where
      by : (b : Bool) → b || false ≡ true → b ≡ true
      by true e = refl
      by false e = e

  hole_parameter : (h : Hole) → hole_in p f [] h ≡ true → hole_names few result h ≡ true → hole_names f.parameters result h ≡ true
  hole_parameter (OfVariable i) k m = parameter i k
  hole_parameter (OfBound i) k m = refl
  hole_parameter OfMe k m = refl
  hole_parameter OfThis k m = refl
  hole_parameter OfResult k m = m

  holes_parameters : (hs : List Hole) → every (hole_in p f []) hs ≡ true → every (hole_names few result) hs ≡ true → every (hole_names f.parameters result) hs ≡ true
  holes_parameters [] k m = refl
  holes_parameters (h ∷ hs) k m =
      let y = and_parts (hole_in p f [] h) (every (hole_in p f []) hs) k in
      let z = and_parts (hole_names few result h) (every (hole_names few result) hs) m in
      and_from _ _ (hole_parameter h y.0 z.0) (holes_parameters hs y.1 z.1)

  mutual
    pub parameters_named : (e : Spec) → spec_in p f [] e ≡ true → names few result e ≡ true → names f.parameters result e ≡ true
    parameters_named (s.Number z) k m = refl
    parameters_named (s.Truth b) k m = refl
    parameters_named s.Null k m = refl
    parameters_named (s.Bound j) k m = refl
    parameters_named s.This k m = refl
    parameters_named s.Me k m = refl
    parameters_named (s.Variable j) k m = parameter j k
    parameters_named s.Result k m = m
    parameters_named (s.Field' q e g) k m = parameters_named e k m
    parameters_named (s.Closed' q e) k m = parameters_named e k m
    parameters_named (s.ClaimCount' q e) k m = parameters_named e k m
    parameters_named (s.Not' q e) k m = parameters_named e k m
    parameters_named (s.Negate' q e) k m = parameters_named e k m
    parameters_named (s.Wrapped' q e) k m = parameters_named e k m
    parameters_named (s.Wrapped0' q e) k m = parameters_named e k m
    parameters_named (s.Mutable' q e) k m = parameters_named e k m
    parameters_named (s.Fresh' q e) k m = parameters_named e k m
    parameters_named (s.Lists' q e) k m = parameters_named e k m
    parameters_named (s.Owner' q e) k m = parameters_named e k m
    parameters_named (s.Old' q e) k m = parameters_named e k m
    parameters_named (s.Unchanged' q e) k m = parameters_named e k m
    parameters_named (s.Member' q a r b) k m = let y = and_parts (spec_in p f [] a) (spec_in p f [] b) k in let z = and_parts (names few result a) (names few result b) m in and_from _ _ (parameters_named a y.0 z.0) (parameters_named b y.1 z.1)
    parameters_named (s.Arithmetic' op q a r b) k m = let y = and_parts (spec_in p f [] a) (spec_in p f [] b) k in let z = and_parts (names few result a) (names few result b) m in and_from _ _ (parameters_named a y.0 z.0) (parameters_named b y.1 z.1)
    parameters_named (s.Compare' op q a r b) k m = let y = and_parts (spec_in p f [] a) (spec_in p f [] b) k in let z = and_parts (names few result a) (names few result b) m in and_from _ _ (parameters_named a y.0 z.0) (parameters_named b y.1 z.1)
    parameters_named (s.And' q a r b) k m = let y = and_parts (spec_in p f [] a) (spec_in p f [] b) k in let z = and_parts (names few result a) (names few result b) m in and_from _ _ (parameters_named a y.0 z.0) (parameters_named b y.1 z.1)
    parameters_named (s.Or' q a r b) k m = let y = and_parts (spec_in p f [] a) (spec_in p f [] b) k in let z = and_parts (names few result a) (names few result b) m in and_from _ _ (parameters_named a y.0 z.0) (parameters_named b y.1 z.1)
    parameters_named (s.Implies' q a r b) k m = let y = and_parts (spec_in p f [] a) (spec_in p f [] b) k in let z = and_parts (names few result a) (names few result b) m in and_from _ _ (parameters_named a y.0 z.0) (parameters_named b y.1 z.1)
    parameters_named (s.Iff' q a r b) k m = let y = and_parts (spec_in p f [] a) (spec_in p f [] b) k in let z = and_parts (names few result a) (names few result b) m in and_from _ _ (parameters_named a y.0 z.0) (parameters_named b y.1 z.1)
    parameters_named (s.ClaimsObject' q a r b) k m = let y = and_parts (spec_in p f [] a) (spec_in p f [] b) k in let z = and_parts (names few result a) (names few result b) m in and_from _ _ (parameters_named a y.0 z.0) (parameters_named b y.1 z.1)
    parameters_named (s.Choose' q a r b t c) k m =
        let y = and_parts (spec_in p f [] a) (spec_in p f [] b && spec_in p f [] c) k in
        let z = and_parts (names few result a) (names few result b && names few result c) m in
        let u = and_parts (spec_in p f [] b) (spec_in p f [] c) y.1 in
        let v = and_parts (names few result b) (names few result c) z.1 in
        and_from _ _ (parameters_named a y.0 z.0) (and_from _ _ (parameters_named b u.0 v.0) (parameters_named c u.1 v.1))
    parameters_named (s.Claims' q c n row) k m = let y = and_parts (spec_in p f [] c) (spec_row_in p f [] row) k in let z = and_parts (names few result c) (row_names few result row) m in and_from _ _ (parameters_named c y.0 z.0) (row_parameters row y.1 z.1)
    parameters_named (s.Has c) k m = holes_parameters c.holes.items k m
    parameters_named (s.ForAll' n ty q e r body) k m = let y = and_parts (spec_in p f [] e) (spec_in p f [] body) k in let z = and_parts (names few result e) (names few result body) m in and_from _ _ (parameters_named e y.0 z.0) (parameters_named body y.1 z.1)
    parameters_named (s.Exists' n ty q e l row) k m = let y = and_parts (spec_in p f [] e) (spec_row_in p f [] row) k in let z = and_parts (names few result e) (row_names few result row) m in and_from _ _ (parameters_named e y.0 z.0) (row_parameters row y.1 z.1)
    parameters_named (s.ClaimsOnly' n q c l row) k m = let y = and_parts (spec_in p f [] c) (spec_row_in p f [] row) k in let z = and_parts (names few result c) (row_names few result row) m in and_from _ _ (parameters_named c y.0 z.0) (row_parameters row y.1 z.1)

    row_parameters : {n : _} (row : Row_of-Spec n) → spec_row_in p f [] row ≡ true → row_names few result row ≡ true → row_names f.parameters result row ≡ true
    row_parameters end_of-Spec k m = refl
    row_parameters (more_of-Spec e row) k m = let y = and_parts (spec_in p f [] e) (spec_row_in p f [] row) k in let z = and_parts (names few result e) (row_names few result row) m in and_from _ _ (parameters_named e y.0 z.0) (row_parameters row y.1 z.1)
