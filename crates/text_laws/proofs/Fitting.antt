-- An annotation that stands for something, with its quantifiers in order, fits, and its term is of the sort of what it stands for.
use Rattle.std.proofs.Common.{◌≡◌, ℕ, zero, suc, ◌<◌, Bool, true, false, not, ◌&&◌, ◌||◌, if◌then◌else◌, nat_lt, List, [], ◌∷◌, length, map, Option, Some, None, slice_get, is_some, refl, sym, ap, ◌∙◌, arith}
use Rattle.std.specs.Option.{option_map}
use Rattle.std.proofs.lemmas.Bool.{and_parts, and_from}
use Rattle.std.proofs.lemmas.Option.{slice_get_within, same_Some}
use Rattle.object_types.specs.Sets.{every}
use Rattle.method.specs.declared.program.DeclaredType.{DeclaredType}
use Rattle.method.specs.declared.program.DeclaredType.TheVariants.{Integer, Pointer, Object, Claim}
use Rattle.method.specs.declared.program.FieldInfo.{FieldInfo}
use Rattle.method.specs.declared.program.Shape.{Shape}
use Rattle.method.specs.declared.program.Hole.{Hole}
use Rattle.method.specs.declared.program.Hole.TheVariants.{OfVariable, OfBound, OfMe, OfThis, OfResult}
use Rattle.method.specs.declared.program.Spec.{Spec, Row_of-Spec, end_of-Spec, more_of-Spec}
use Rattle.method.specs.declared.program.Spec.TheVariants as s
use Rattle.method.specs.declared.program.Program.{Program}
use Rattle.method.specs.Tables.{field_type, type_of_field}
use Rattle.method.specs.Typing.{converts, compares_refs, and_then}
use Rattle.terms.specs.Formula.{Formula}
use Rattle.conditions.specs.Formulas.{null}
use Rattle.conditions.specs.Symbolic.{Symbolic, Truth, Number, Reference, test, choose, symbolic_of_type as symbolic_of}
use Rattle.conditions.specs.Annotations.{Scene, old_scene, bind_ref, symbolic_at, variable, translate}
use Rattle.condition_meaning.specs.Fits.{is_ref, is_ref_type, same_bool, params_fit, are_refs}
use Rattle.condition_meaning.specs.Annotated.{fits, row_fits, nothing_hidden, is_visible_hole}
use Rattle.typed_program.specs.Trees as t
use Rattle.typed_program.specs.Views as seen
use Rattle.typed_laws.specs.Fits.{Meant, Whole, Nobody, Referred, of_type, Names, with_bound, is_whole, is_reference, is_pointer, is_claim, both, only_if, joined, points_to, field_meant, option_meant, variable_type, this_type, refers, shape_fits, conjunct_fits, meaning, all_mean, all_refer}
use Rattle.typed_laws.proofs.Bridge.{slice_map}
use Rattle.text_laws.proofs.Order.{is_ordered, are_ordered, numbers_from, all_numbers_from, numbers_from_seen, row_numbers_from_seen}

-- the words of a scene are of the sorts of the names' types
pub record Sorted (n : Names) (w : Scene) : Type 0 where
  pub local : (i : ℕ) (ty : DeclaredType) → variable_type (slice_get n.variables i) ≡ Some ty → is_ref (symbolic_at w.locals i) ≡ is_ref_type ty
  pub entry : (i : ℕ) (ty : DeclaredType) → variable_type (slice_get n.variables i) ≡ Some ty → nat_lt i (length w.entry) ≡ true → is_ref (symbolic_at w.entry i) ≡ is_ref_type ty
  pub bound : (i : ℕ) (ty : DeclaredType) → slice_get n.bound i ≡ Some ty → is_ref_type ty ≡ true
  pub result : (ty : DeclaredType) → n.result ≡ Some ty → is_ref w.result ≡ is_ref_type ty
  pub params : params_fit w.entry w.locals ≡ true

in_past : (n : Names) (w : Scene) → Sorted n w → Sorted n (old_scene w)
in_past n w h = record { local = h.local; entry = h.entry; bound = h.bound; result = h.result; params = h.params }

in_body : (n : Names) (w : Scene) (ty : DeclaredType) → is_ref_type ty ≡ true → Sorted n w → Sorted (with_bound ty n) (bind_ref null w)
in_body n w ty r h = record { local = h.local; entry = h.entry; bound = by; result = h.result; params = h.params }
  where
    by : (i : ℕ) (u : DeclaredType) → slice_get (ty ∷ n.bound) i ≡ Some u → is_ref_type u ≡ true
    by zero u e = ap is_ref_type (sym (same_Some ty u e)) ∙ r
    by (suc i) u e = h.bound i u e

-- ---- parts of what stands for something

pub first : (o : Option Meant) (f : Meant → Option Meant) (v : Meant) → and_then o f ≡ Some v → (u : Meant) × (o ≡ Some u) × (f u ≡ Some v)
first None f v h = absurd (cc)
first (Some u) f v h = (u, refl, h)

pub kept : (c : Bool) (u v : Meant) → only_if c u ≡ Some v → (c ≡ true) × (u ≡ v)
kept true u v h = (refl, same_Some u v h)
kept false u v h = absurd (cc)

whole : (c : Bool) (v : Meant) → only_if c Whole ≡ Some v → false ≡ is_reference v
whole c v h = ap is_reference (kept c Whole v h).1

some_whole : (v : Meant) → Some Whole ≡ Some v → false ≡ is_reference v
some_whole v h = ap is_reference (same_Some Whole v h)

type_refers : (ty : DeclaredType) → is_reference (of_type ty) ≡ is_ref_type ty
type_refers (Integer c) = refl
type_refers (Pointer n) = refl
type_refers Object = refl
type_refers Claim = refl

pub typed : (o : Option DeclaredType) (v : Meant) → option_meant o ≡ Some v → (ty : DeclaredType) × (o ≡ Some ty) × (is_ref_type ty ≡ is_reference v)
typed None v h = absurd (cc)
typed (Some ty) v h = (ty, refl, sym (type_refers ty) ∙ ap is_reference (same_Some (of_type ty) v h))

pub symbolic_refers : (ty : DeclaredType) (x : Formula) → is_ref (symbolic_of ty x) ≡ is_ref_type ty
symbolic_refers (Integer c) x = refl
symbolic_refers (Pointer n) x = refl
symbolic_refers Object x = refl
symbolic_refers Claim x = refl

pub choose_refers : (b : Formula) (x y : Symbolic) → is_ref (choose b x y) ≡ is_ref x
choose_refers b (Reference x) y = refl
choose_refers b (Truth x) y = refl
choose_refers b (Number x) y = by _ _ _
  where
    by : (c : Bool) (f g : Formula) → is_ref (if c then Truth f else Number g) ≡ false
    by true f g = refl
    by false f g = refl

joined_refer : (v w u : Meant) → joined v w ≡ Some u → (is_reference v ≡ is_reference u) × (is_reference w ≡ is_reference u)
joined_refer Whole Whole u h = (ap is_reference (same_Some Whole u h), ap is_reference (same_Some Whole u h))
joined_refer Nobody Nobody u h = (ap is_reference (same_Some Nobody u h), ap is_reference (same_Some Nobody u h))
joined_refer Nobody (Referred b) u h = (ap is_reference (same_Some (Referred b) u h), ap is_reference (same_Some (Referred b) u h))
joined_refer (Referred a) Nobody u h = (ap is_reference (same_Some (Referred a) u h), ap is_reference (same_Some (Referred a) u h))
joined_refer (Referred a) (Referred b) u h = by (converts a b) (converts b a) h
  where
    by : (c d : Bool) → (if c then Some (Referred b) else only_if d (Referred a)) ≡ Some u → (is_reference (Referred a) ≡ is_reference u) × (is_reference (Referred b) ≡ is_reference u)
    by true d e = (ap is_reference (same_Some (Referred b) u e), ap is_reference (same_Some (Referred b) u e))
    by false d e = let z = ap is_reference (kept d (Referred a) u e).1 in (z, z)
joined_refer Whole Nobody u h = absurd (cc)
joined_refer Whole (Referred b) u h = absurd (cc)
joined_refer Nobody Whole u h = absurd (cc)
joined_refer (Referred a) Whole u h = absurd (cc)

same_both : (a b c : Bool) → a ≡ c → b ≡ c → same_bool a b ≡ true
same_both true true c h j = refl
same_both false false c h j = refl
same_both true false c h j = absurd (cc)
same_both false true c h j = absurd (cc)

variable_sorted : (n : Names) (w : Scene) → Sorted n w → (i : ℕ) (ty : DeclaredType) → variable_type (slice_get n.variables i) ≡ Some ty → is_ref (variable w i) ≡ is_ref_type ty
variable_sorted n w h i ty e = by w.past (nat_lt i (length w.entry)) refl
  where
    by : (c d : Bool) → nat_lt i (length w.entry) ≡ d → is_ref (if c && d then symbolic_at w.entry i else symbolic_at w.locals i) ≡ is_ref_type ty
    by true true j = h.entry i ty e j
    by true false j = h.local i ty e
    by false d j = h.local i ty e

pub in_range : (n m : ℕ) → n < m → nat_lt n m ≡ true
in_range n m h = grind (arith, h)

holes_visible : (hs : List Hole) → every (is_visible_hole nothing_hidden) hs ≡ true
holes_visible [] = refl
holes_visible (OfVariable i ∷ hs) = holes_visible hs
holes_visible (OfBound i ∷ hs) = holes_visible hs
holes_visible (OfMe ∷ hs) = holes_visible hs
holes_visible (OfThis ∷ hs) = holes_visible hs
holes_visible (OfResult ∷ hs) = holes_visible hs

pub row_first : (o : Option Meant) (test : Meant → Bool) (b : Bool) (v : Meant) → and_then o (λ u. only_if (test u && b) Whole) ≡ Some v → (u : Meant) × (o ≡ Some u) × (b ≡ true) × (false ≡ is_reference v)
row_first None test b v h = absurd (cc)
row_first (Some u) test b v h = let z = kept (test u && b) Whole v h in (u, refl, (and_parts (test u) b z.0).1, ap is_reference z.1)

this_refers : (o : Option ℕ) (v : Meant) → option_meant (this_type o) ≡ Some v → true ≡ is_reference v
this_refers None v h = absurd (cc)
this_refers (Some n) v h = ap is_reference (same_Some (Referred (Pointer n)) v h)

pub given : (o : Option Meant) → is_some o ≡ true → (v : Meant) × (o ≡ Some v)
given None h = absurd (cc)
given (Some v) h = (v, refl)

referred : (o : Option Meant) → refers o ≡ true → (v : Meant) × (o ≡ Some v) × (is_reference v ≡ true)
referred None h = absurd (cc)
referred (Some v) h = (v, refl, h)

-- what stands for references stands for something
pub refer_mean : (p : t.Program) (n : Names) (ws : t.Specs) → all_refer p n ws ≡ true → all_mean p n ws ≡ true
refer_mean p n t.Stop h = refl
refer_mean p n (t.With x xs) h =
    let z = and_parts (refers (meaning p n x)) (all_refer p n xs) h in
    and_from _ _ (ap is_some (referred (meaning p n x) z.0).1) (refer_mean p n xs z.1)

module _ (p : Program) where
  field_within : (u v : Meant) (f : ℕ) → field_meant u (slice_get (map seen.field p.fields.items) f) ≡ Some v → (nat_lt f (length p.fields.items) ≡ true) × (is_ref_type (type_of_field p f) ≡ is_reference v)
  field_within u v f h = by (slice_get p.fields.items f) refl (ap (λ o. field_meant u o) (sym (slice_map seen.field p.fields.items f)) ∙ h)
    where
      of : (u : Meant) (g : FieldInfo) → field_meant u (Some (seen.field g)) ≡ Some v → is_ref_type g.ty ≡ is_reference v
      of Whole g e = absurd (cc)
      of Nobody g e = absurd (cc)
      of (Referred ty) g e = sym (type_refers g.ty) ∙ ap is_reference (kept (points_to ty g.of) (of_type g.ty) v e).1

      none : (u : Meant) → field_meant u None ≡ Some v → ⊥
      none Whole e = cc
      none Nobody e = cc
      none (Referred ty) e = cc

      by : (o : Option FieldInfo) → slice_get p.fields.items f ≡ o → field_meant u (option_map seen.field o) ≡ Some v → (nat_lt f (length p.fields.items) ≡ true) × (is_ref_type (type_of_field p f) ≡ is_reference v)
      by None is e = absurd (none u e)
      by (Some g) is e = (in_range f (length p.fields.items) (slice_get_within p.fields.items f g is), ap (λ o. is_ref_type (field_type o)) is ∙ of u g e)

  shape_within : (n : Names) (hs : List Hole) (j : ℕ) → shape_fits n hs (slice_get (map seen.shape p.shapes.items) j) ≡ true → nat_lt j (length p.shapes.items) ≡ true
  shape_within n hs j h = by (slice_get p.shapes.items j) refl (ap (shape_fits n hs) (sym (slice_map seen.shape p.shapes.items j)) ∙ h)
    where
      by : (o : Option Shape) → slice_get p.shapes.items j ≡ o → shape_fits n hs (option_map seen.shape o) ≡ true → nat_lt j (length p.shapes.items) ≡ true
      by None is e = absurd (cc)
      by (Some z) is e = in_range j (length p.shapes.items) (slice_get_within p.shapes.items j z is)

  abbrev Fit : Bool → Spec → Scene → Meant → Type 0
  Fit i e w v = (fits p nothing_hidden i e w ≡ true) × (is_ref (translate p e w) ≡ is_reference v)

  mutual
    pub fits_by_meaning : (e : Spec) (n : Names) (w : Scene) (i : Bool) (v : Meant) → Sorted n w → meaning (seen.program p) n (seen.spec e) ≡ Some v → is_ordered i (seen.spec e) ≡ true → Fit i e w v
    fits_by_meaning (s.Number z) n w i v k h o = (refl, some_whole v h)
    fits_by_meaning (s.Truth b) n w i v k h o = (refl, some_whole v h)
    fits_by_meaning s.Null n w i v k h o = (refl, ap is_reference (same_Some Nobody v h))
    fits_by_meaning (s.Variable j) n w i v k h o = let z = typed (variable_type (slice_get n.variables j)) v h in (refl, variable_sorted n w k j z.0 z.1 ∙ z.2)
    fits_by_meaning (s.Bound j) n w i v k h o = let z = typed (slice_get n.bound j) v h in (refl, sym (k.bound j z.0 z.1) ∙ z.2)
    fits_by_meaning s.This n w i v k h o = (refl, this_refers n.this v h)
    fits_by_meaning s.Me n w i v k h o = (refl, ap is_reference (same_Some (Referred Object) v h))
    fits_by_meaning s.Result n w i v k h o = let z = typed n.result v h in (refl, k.result z.0 z.1 ∙ z.2)
    fits_by_meaning (s.Field' q e f) n w i v k h o =
        let z = first (meaning (seen.program p) n (seen.spec e)) (λ u. field_meant u (slice_get (map seen.field p.fields.items) f)) v h in
        let y = field_within z.0 v f z.2 in
        (and_from _ _ y.0 (fits_by_meaning e n w i z.0 k z.1 o).0, symbolic_refers (type_of_field p f) _ ∙ y.1)
    fits_by_meaning (s.Closed' q e) n w i v k h o = let z = first (meaning (seen.program p) n (seen.spec e)) (λ u. only_if (is_pointer u) Whole) v h in ((fits_by_meaning e n w i z.0 k z.1 o).0, whole (is_pointer z.0) v z.2)
    fits_by_meaning (s.ClaimCount' q e) n w i v k h o = let z = first (meaning (seen.program p) n (seen.spec e)) (λ u. only_if (is_pointer u) Whole) v h in ((fits_by_meaning e n w i z.0 k z.1 o).0, whole (is_pointer z.0) v z.2)
    fits_by_meaning (s.Not' q e) n w i v k h o = let z = first (meaning (seen.program p) n (seen.spec e)) (λ u. Some Whole) v h in ((fits_by_meaning e n w i z.0 k z.1 o).0, some_whole v z.2)
    fits_by_meaning (s.Negate' q e) n w i v k h o = let z = first (meaning (seen.program p) n (seen.spec e)) (λ u. only_if (is_whole u) Whole) v h in ((fits_by_meaning e n w i z.0 k z.1 o).0, whole (is_whole z.0) v z.2)
    fits_by_meaning (s.Wrapped' q e) n w i v k h o = let z = first (meaning (seen.program p) n (seen.spec e)) (λ u. only_if (is_reference u) Whole) v h in ((fits_by_meaning e n w i z.0 k z.1 o).0, whole (is_reference z.0) v z.2)
    fits_by_meaning (s.Wrapped0' q e) n w i v k h o = let z = first (meaning (seen.program p) n (seen.spec e)) (λ u. only_if (is_reference u) Whole) v h in ((fits_by_meaning e n w i z.0 k z.1 o).0, whole (is_reference z.0) v z.2)
    fits_by_meaning (s.Mutable' q e) n w i v k h o = let z = first (meaning (seen.program p) n (seen.spec e)) (λ u. only_if (is_reference u) Whole) v h in ((fits_by_meaning e n w i z.0 k z.1 o).0, whole (is_reference z.0) v z.2)
    fits_by_meaning (s.Fresh' q e) n w i v k h o = let z = first (meaning (seen.program p) n (seen.spec e)) (λ u. only_if (is_reference u) Whole) v h in ((fits_by_meaning e n w i z.0 k z.1 o).0, whole (is_reference z.0) v z.2)
    fits_by_meaning (s.Lists' q e) n w i v k h o = let z = first (meaning (seen.program p) n (seen.spec e)) (λ u. only_if (is_pointer u) Whole) v h in ((fits_by_meaning e n w i z.0 k z.1 o).0, whole (is_pointer z.0) v z.2)
    fits_by_meaning (s.Owner' q e) n w i v k h o = let z = first (meaning (seen.program p) n (seen.spec e)) (λ u. only_if (is_pointer u) (Referred Object)) v h in ((fits_by_meaning e n w i z.0 k z.1 o).0, ap is_reference (kept (is_pointer z.0) (Referred Object) v z.2).1)
    fits_by_meaning (s.Old' q e) n w i v k h o = fits_by_meaning e n (old_scene w) i v (in_past n w k) h o
    fits_by_meaning (s.Unchanged' q e) n w i v k h o = let z = first (meaning (seen.program p) n (seen.spec e)) (λ u. Some Whole) v h in (and_from _ _ k.params (fits_by_meaning e n w i z.0 k z.1 o).0, some_whole v z.2)
    fits_by_meaning (s.Member' q a r b) n w i v k h o =
        let z = first (meaning (seen.program p) n (seen.spec a)) (λ u. and_then (meaning (seen.program p) n (seen.spec b)) (λ x. only_if (is_reference u && is_pointer x) Whole)) v h in
        let y = first (meaning (seen.program p) n (seen.spec b)) (λ x. only_if (is_reference z.0 && is_pointer x) Whole) v z.2 in
        let c = and_parts (is_ordered i (seen.spec a)) (is_ordered i (seen.spec b)) o in
        (and_from _ _ (fits_by_meaning a n w i z.0 k z.1 c.0).0 (fits_by_meaning b n w i y.0 k y.1 c.1).0, whole (is_reference z.0 && is_pointer y.0) v y.2)
    fits_by_meaning (s.Arithmetic' op q a r b) n w i v k h o =
        let z = first (meaning (seen.program p) n (seen.spec a)) (λ u. and_then (meaning (seen.program p) n (seen.spec b)) (λ x. only_if (both is_whole u x) Whole)) v h in
        let y = first (meaning (seen.program p) n (seen.spec b)) (λ x. only_if (both is_whole z.0 x) Whole) v z.2 in
        let c = and_parts (is_ordered i (seen.spec a)) (is_ordered i (seen.spec b)) o in
        (and_from _ _ (fits_by_meaning a n w i z.0 k z.1 c.0).0 (fits_by_meaning b n w i y.0 k y.1 c.1).0, whole (both is_whole z.0 y.0) v y.2)
    fits_by_meaning (s.Compare' op q a r b) n w i v k h o =
        let z = first (meaning (seen.program p) n (seen.spec a)) (λ u. and_then (meaning (seen.program p) n (seen.spec b)) (λ x. only_if (both is_whole u x || (compares_refs op && both is_reference u x)) Whole)) v h in
        let y = first (meaning (seen.program p) n (seen.spec b)) (λ x. only_if (both is_whole z.0 x || (compares_refs op && both is_reference z.0 x)) Whole) v z.2 in
        let c = and_parts (is_ordered i (seen.spec a)) (is_ordered i (seen.spec b)) o in
        (and_from _ _ (fits_by_meaning a n w i z.0 k z.1 c.0).0 (fits_by_meaning b n w i y.0 k y.1 c.1).0, whole (both is_whole z.0 y.0 || (compares_refs op && both is_reference z.0 y.0)) v y.2)
    fits_by_meaning (s.And' q a r b) n w i v k h o =
        let z = first (meaning (seen.program p) n (seen.spec a)) (λ u. and_then (meaning (seen.program p) n (seen.spec b)) (λ x. Some Whole)) v h in
        let y = first (meaning (seen.program p) n (seen.spec b)) (λ x. Some Whole) v z.2 in
        let c = and_parts (is_ordered i (seen.spec a)) (is_ordered i (seen.spec b)) o in
        (and_from _ _ (fits_by_meaning a n w i z.0 k z.1 c.0).0 (fits_by_meaning b n w i y.0 k y.1 c.1).0, some_whole v y.2)
    fits_by_meaning (s.Or' q a r b) n w i v k h o =
        let z = first (meaning (seen.program p) n (seen.spec a)) (λ u. and_then (meaning (seen.program p) n (seen.spec b)) (λ x. Some Whole)) v h in
        let y = first (meaning (seen.program p) n (seen.spec b)) (λ x. Some Whole) v z.2 in
        let c = and_parts (is_ordered i (seen.spec a)) (is_ordered i (seen.spec b)) o in
        (and_from _ _ (fits_by_meaning a n w i z.0 k z.1 c.0).0 (fits_by_meaning b n w i y.0 k y.1 c.1).0, some_whole v y.2)
    fits_by_meaning (s.Implies' q a r b) n w i v k h o =
        let z = first (meaning (seen.program p) n (seen.spec a)) (λ u. and_then (meaning (seen.program p) n (seen.spec b)) (λ x. Some Whole)) v h in
        let y = first (meaning (seen.program p) n (seen.spec b)) (λ x. Some Whole) v z.2 in
        let c = and_parts (is_ordered i (seen.spec a)) (is_ordered i (seen.spec b)) o in
        (and_from _ _ (fits_by_meaning a n w i z.0 k z.1 c.0).0 (fits_by_meaning b n w i y.0 k y.1 c.1).0, some_whole v y.2)
    fits_by_meaning (s.Iff' q a r b) n w i v k h o =
        let z = first (meaning (seen.program p) n (seen.spec a)) (λ u. and_then (meaning (seen.program p) n (seen.spec b)) (λ x. Some Whole)) v h in
        let y = first (meaning (seen.program p) n (seen.spec b)) (λ x. Some Whole) v z.2 in
        let c = and_parts (is_ordered i (seen.spec a)) (is_ordered i (seen.spec b)) o in
        (and_from _ _ (fits_by_meaning a n w i z.0 k z.1 c.0).0 (fits_by_meaning b n w i y.0 k y.1 c.1).0, some_whole v y.2)
    fits_by_meaning (s.ClaimsObject' q a r b) n w i v k h o =
        let z = first (meaning (seen.program p) n (seen.spec a)) (λ u. and_then (meaning (seen.program p) n (seen.spec b)) (λ x. only_if (is_claim u && is_reference x) Whole)) v h in
        let y = first (meaning (seen.program p) n (seen.spec b)) (λ x. only_if (is_claim z.0 && is_reference x) Whole) v z.2 in
        let c = and_parts (is_ordered i (seen.spec a)) (is_ordered i (seen.spec b)) o in
        (and_from _ _ (fits_by_meaning a n w i z.0 k z.1 c.0).0 (fits_by_meaning b n w i y.0 k y.1 c.1).0, whole (is_claim z.0 && is_reference y.0) v y.2)
    fits_by_meaning (s.Choose' q a r b t c) n w i v k h o =
        let z = first (meaning (seen.program p) n (seen.spec a)) (λ u. and_then (meaning (seen.program p) n (seen.spec b)) (λ x. and_then (meaning (seen.program p) n (seen.spec c)) (λ y. joined x y))) v h in
        let y = first (meaning (seen.program p) n (seen.spec b)) (λ x. and_then (meaning (seen.program p) n (seen.spec c)) (λ y. joined x y)) v z.2 in
        let x = first (meaning (seen.program p) n (seen.spec c)) (λ x. joined y.0 x) v y.2 in
        let d = and_parts (is_ordered i (seen.spec a)) (is_ordered i (seen.spec b) && is_ordered i (seen.spec c)) o in
        let g = and_parts (is_ordered i (seen.spec b)) (is_ordered i (seen.spec c)) d.1 in
        let fb = fits_by_meaning b n w i y.0 k y.1 g.0 in
        let fc = fits_by_meaning c n w i x.0 k x.1 g.1 in
        let j = joined_refer y.0 x.0 v x.2 in
        (and_from _ _ (fits_by_meaning a n w i z.0 k z.1 d.0).0 (and_from _ _ fb.0 (and_from _ _ fc.0 (same_both _ _ (is_reference v) (fb.1 ∙ j.0) (fc.1 ∙ j.1)))), choose_refers (test (translate p a w)) (translate p b w) (translate p c w) ∙ (fb.1 ∙ j.0))
    fits_by_meaning (s.Claims' q c m row) n w i v k h o =
        let z = row_first (meaning (seen.program p) n (seen.spec c)) is_claim (all_mean (seen.program p) n (seen.row row)) v h in
        let d = and_parts (is_ordered i (seen.spec c)) (are_ordered true (seen.row row)) o in
        (and_from _ _ (fits_by_meaning c n w i z.0 k z.1 d.0).0 (row_fits_by_meaning row n w true k z.2 d.1), z.3)
    fits_by_meaning (s.Has c) n w i v k h o = let z = kept (conjunct_fits (seen.program p) n (seen.conjunct c)) Whole v h in (and_from _ _ (shape_within n c.holes.items c.shape z.0) (holes_visible c.holes.items), ap is_reference z.1)
    fits_by_meaning (s.ForAll' m ty q e r body) n w i v k h o =
        let z = first (meaning (seen.program p) n (seen.spec e)) (λ u. and_then (meaning (seen.program p) (with_bound ty n) (seen.spec body)) (λ x. only_if (is_pointer u) Whole)) v h in
        let y = first (meaning (seen.program p) (with_bound ty n) (seen.spec body)) (λ x. only_if (is_pointer z.0) Whole) v z.2 in
        let a = and_parts (not i) (is_ref_type ty && ((numbers_from (suc m) (seen.spec e) && numbers_from (suc m) (seen.spec body)) && (is_ordered false (seen.spec e) && is_ordered false (seen.spec body)))) o in
        let b = and_parts (is_ref_type ty) ((numbers_from (suc m) (seen.spec e) && numbers_from (suc m) (seen.spec body)) && (is_ordered false (seen.spec e) && is_ordered false (seen.spec body))) a.1 in
        let c = and_parts (numbers_from (suc m) (seen.spec e) && numbers_from (suc m) (seen.spec body)) (is_ordered false (seen.spec e) && is_ordered false (seen.spec body)) b.1 in
        let d = and_parts (numbers_from (suc m) (seen.spec e)) (numbers_from (suc m) (seen.spec body)) c.0 in
        let g = and_parts (is_ordered false (seen.spec e)) (is_ordered false (seen.spec body)) c.1 in (
          and_from _ _ a.0 (and_from _ _ b.0 (and_from _ _ (and_from _ _ (numbers_from_seen (suc m) e ∙ d.0) (numbers_from_seen (suc m) body ∙ d.1))
              (and_from _ _ (fits_by_meaning e n w false z.0 k z.1 g.0).0 (fits_by_meaning body (with_bound ty n) (bind_ref null w) false y.0 (in_body n w ty b.0 k) y.1 g.1).0))),
          whole (is_pointer z.0) v y.2,
        )
    fits_by_meaning (s.Exists' m ty q e l row) n w i v k h o =
        let z = row_first (meaning (seen.program p) n (seen.spec e)) is_pointer (all_mean (seen.program p) (with_bound ty n) (seen.row row)) v h in
        let a = and_parts (not i) (is_ref_type ty && ((numbers_from (suc m) (seen.spec e) && all_numbers_from (suc m) (seen.row row)) && (is_ordered false (seen.spec e) && are_ordered false (seen.row row)))) o in
        let b = and_parts (is_ref_type ty) ((numbers_from (suc m) (seen.spec e) && all_numbers_from (suc m) (seen.row row)) && (is_ordered false (seen.spec e) && are_ordered false (seen.row row))) a.1 in
        let c = and_parts (numbers_from (suc m) (seen.spec e) && all_numbers_from (suc m) (seen.row row)) (is_ordered false (seen.spec e) && are_ordered false (seen.row row)) b.1 in
        let d = and_parts (numbers_from (suc m) (seen.spec e)) (all_numbers_from (suc m) (seen.row row)) c.0 in
        let g = and_parts (is_ordered false (seen.spec e)) (are_ordered false (seen.row row)) c.1 in (
          and_from _ _ a.0 (and_from _ _ b.0 (and_from _ _ (and_from _ _ (numbers_from_seen (suc m) e ∙ d.0) (row_numbers_from_seen (suc m) row ∙ d.1))
              (and_from _ _ (fits_by_meaning e n w false z.0 k z.1 g.0).0 (row_fits_by_meaning row (with_bound ty n) (bind_ref null w) false (in_body n w ty b.0 k) z.2 g.1)))),
          z.3,
        )
    fits_by_meaning (s.ClaimsOnly' m q c l row) n w i v k h o =
        let z = row_first (meaning (seen.program p) n (seen.spec c)) is_claim (all_refer (seen.program p) n (seen.row row)) v h in
        let a = and_parts (not i) ((numbers_from (suc m) (seen.spec c) && all_numbers_from (suc m) (seen.row row)) && (is_ordered false (seen.spec c) && are_ordered false (seen.row row))) o in
        let b = and_parts (numbers_from (suc m) (seen.spec c) && all_numbers_from (suc m) (seen.row row)) (is_ordered false (seen.spec c) && are_ordered false (seen.row row)) a.1 in
        let d = and_parts (numbers_from (suc m) (seen.spec c)) (all_numbers_from (suc m) (seen.row row)) b.0 in
        let g = and_parts (is_ordered false (seen.spec c)) (are_ordered false (seen.row row)) b.1 in (
          and_from _ _ a.0 (and_from _ _ (and_from _ _ (numbers_from_seen (suc m) c ∙ d.0) (row_numbers_from_seen (suc m) row ∙ d.1))
              (and_from _ _ (refs_by_meaning row n w false k z.2 g.1)
              (and_from _ _ (fits_by_meaning c n w false z.0 k z.1 g.0).0 (row_fits_by_meaning row n w false k (refer_mean (seen.program p) n (seen.row row) z.2) g.1)))),
          z.3,
        )

    pub row_fits_by_meaning : {m : _} (row : Row_of-Spec m) (n : Names) (w : Scene) (i : Bool) → Sorted n w → all_mean (seen.program p) n (seen.row row) ≡ true → are_ordered i (seen.row row) ≡ true → row_fits p nothing_hidden i row w ≡ true
    row_fits_by_meaning end_of-Spec n w i k h o = refl
    row_fits_by_meaning (more_of-Spec e row) n w i k h o =
        let z = and_parts (is_some (meaning (seen.program p) n (seen.spec e))) (all_mean (seen.program p) n (seen.row row)) h in
        let c = and_parts (is_ordered i (seen.spec e)) (are_ordered i (seen.row row)) o in
        let y = given (meaning (seen.program p) n (seen.spec e)) z.0 in
        and_from _ _ (fits_by_meaning e n w i y.0 k y.1 c.0).0 (row_fits_by_meaning row n w i k z.1 c.1)

    refs_by_meaning : {m : _} (row : Row_of-Spec m) (n : Names) (w : Scene) (i : Bool) → Sorted n w → all_refer (seen.program p) n (seen.row row) ≡ true → are_ordered i (seen.row row) ≡ true → are_refs p row w ≡ true
    refs_by_meaning end_of-Spec n w i k h o = refl
    refs_by_meaning (more_of-Spec e row) n w i k h o =
        let z = and_parts (refers (meaning (seen.program p) n (seen.spec e))) (all_refer (seen.program p) n (seen.row row)) h in
        let c = and_parts (is_ordered i (seen.spec e)) (are_ordered i (seen.row row)) o in
        let y = referred (meaning (seen.program p) n (seen.spec e)) z.0 in
        and_from _ _ ((fits_by_meaning e n w i y.0 k y.1 c.0).1 ∙ y.2) (refs_by_meaning row n w i k z.1 c.1)

  -- an annotation that stands for something
  pub has_formula : (e : Spec) (n : Names) (w : Scene) → Sorted n w → is_some (meaning (seen.program p) n (seen.spec e)) ≡ true → is_ordered false (seen.spec e) ≡ true → fits p nothing_hidden false e w ≡ true
  has_formula e n w k h o = let y = given (meaning (seen.program p) n (seen.spec e)) h in (fits_by_meaning e n w false y.0 k y.1 o).0

  -- and one that names an object
  pub has_reference : (e : Spec) (n : Names) (w : Scene) → Sorted n w → refers (meaning (seen.program p) n (seen.spec e)) ≡ true → is_ordered false (seen.spec e) ≡ true → Fit false e w Nobody
  has_reference e n w k h o = let y = referred (meaning (seen.program p) n (seen.spec e)) h in let z = fits_by_meaning e n w false y.0 k y.1 o in (z.0, z.1 ∙ y.2)
