-- Places are told apart by their columns and keys.
use Rattle.std.proofs.Common.{◌≡◌, ◌⊎◌, inl, inr, ◌+◌, ◌++◌, ℕ, zero, suc, ℤ, pos, negsuc, List, [], ◌∷◌, map, length, Some, slice_get, refl, ap, sym, ◌∙◌, arith}
use Rattle.object_types.specs.declared.references.Ref.{Ref}
use Rattle.object_types.specs.declared.values.Value.{Value as Scalar}
use Rattle.method.specs.declared.program.Program.{Program}
use Rattle.method.specs.declared.program.FieldInfo.{FieldInfo}
use Rattle.method.specs.declared.program.Shape.{Shape as ShapeInfo}
use Rattle.terms.specs.declared.sort.Sort.TheVariants as s
use Rattle.term_meaning.specs.Columns.{Column, Modes, Owners, Counts, OwnedSets, ClaimedSets, Field, Shape, columns_of, field_columns, shape_columns, further_keys, holes}
use Rattle.term_meaning.specs.RawHeaps.{Place, ModeAt, OwnerAt, CountAt, MemberAt, ClaimedAt, FieldAt, ShapeAt, member_key, place_of}
use Rattle.term_meaning.specs.Meaning.{Value, scalar, reference, ref_value, column_at}
use Rattle.term_meaning.specs.ValueSorts.{HasSort, HaveSorts}
use Rattle.axiom_instances.proofs.Maps.{keys_same}

-- Keys.

one_ref : (p : Program) (us : List Value) → HaveSorts p (s.Ref ∷ []) us → (r : Ref) × (us ≡ ref_value r ∷ [])
one_ref p us h = (h.3.0, h.2 ∙ (λ i. h.3.1 i ∷ h.4 i))

same_refs : (p : Program) (us vs : List Value) → HaveSorts p (s.Ref ∷ []) us → HaveSorts p (s.Ref ∷ []) vs → member_key (map scalar us) ≡ member_key (map scalar vs) → us ≡ vs
same_refs p us vs h k e =
    let a = one_ref p us h in
    let b = one_ref p vs k in
    let same : a.0 ≡ b.0 = ap (λ us. member_key (map scalar us)) (sym a.1) ∙ e ∙ ap (λ us. member_key (map scalar us)) b.1 in
    a.1 ∙ ap (λ r. ref_value r ∷ []) same ∙ sym b.1

-- the keys of one place are equal
pub keys_of_place : (p : Program) (c : Column) (us vs : List Value) → HaveSorts p (further_keys p c) us → HaveSorts p (further_keys p c) vs → place_of c (map scalar us) ≡ place_of c (map scalar vs) → us ≡ vs
keys_of_place p Modes us vs h k e = h ∙ sym k
keys_of_place p Owners us vs h k e = h ∙ sym k
keys_of_place p Counts us vs h k e = h ∙ sym k
keys_of_place p OwnedSets us vs h k e =
    let same : member_key (map scalar us) ≡ member_key (map scalar vs) = cc in
    same_refs p us vs h k same
keys_of_place p ClaimedSets us vs h k e =
    let same : member_key (map scalar us) ≡ member_key (map scalar vs) = cc in
    same_refs p us vs h k same
keys_of_place p (Field f) us vs h k e = h ∙ sym k
keys_of_place p (Shape n) us vs h k e =
    let same : map scalar us ≡ map scalar vs = cc in
    keys_same p (holes (slice_get p.shapes.items n)) us vs h k same

-- values that are references are those that they refer to
pub same_reference : (p : Program) (x y : Value) → HasSort p s.Ref x → HasSort p s.Ref y → reference x ≡ reference y → x ≡ y
same_reference p x y h k e =
    let same : h.0 ≡ k.0 = ap reference (sym h.1) ∙ e ∙ ap reference k.1 in
    h.1 ∙ ap ref_value same ∙ sym k.1

-- Columns.

column_of : Place → Column
column_of ModeAt = Modes
column_of OwnerAt = Owners
column_of CountAt = Counts
column_of (MemberAt q) = OwnedSets
column_of (ClaimedAt q) = ClaimedSets
column_of (FieldAt f) = Field f
column_of (ShapeAt n vs) = Shape n

column_of_place : (c : Column) (ks : List Scalar) → column_of (place_of c ks) ≡ c
unfolding column_of
column_of_place Modes ks = refl
column_of_place Owners ks = refl
column_of_place Counts ks = refl
column_of_place OwnedSets ks = refl
column_of_place ClaimedSets ks = refl
column_of_place (Field f) ks = refl
column_of_place (Shape n) ks = refl

-- one place is of one column
pub same_column : (c d : Column) (ks ls : List Scalar) → place_of c ks ≡ place_of d ls → c ≡ d
same_column c d ks ls e = sym (column_of_place c ks) ∙ ap column_of e ∙ column_of_place d ls

module _ (p : Program) where
  number_of : Column → ℕ
  number_of Modes = 0
  number_of Owners = 1
  number_of Counts = 2
  number_of OwnedSets = 3
  number_of ClaimedSets = 4
  number_of (Field f) = 5 + f
  number_of (Shape n) = 5 + (length p.fields.items + n)

  shape_at : (n : ℕ) (ss : List ShapeInfo) (j : ℕ) (c : Column) → slice_get (shape_columns n ss) j ≡ Some c → c ≡ Shape (n + j)
  shape_at n [] j c h = absurd (cc)
  shape_at n (s ∷ ss) zero c h = let e : Shape n ≡ c = cc in sym e ∙ ap Shape (let z : n ≡ n + 0 = omega arith in z)
  shape_at n (s ∷ ss) (suc j) c h = shape_at (n + 1) ss j c h ∙ ap Shape (let z : n + 1 + j ≡ n + suc j = omega arith in z)

  field_at : (n : ℕ) (fs : List FieldInfo) (rest : List Column) (j : ℕ) (c : Column) → slice_get (field_columns n fs ++ rest) j ≡ Some c → (c ≡ Field (n + j)) ⊎ ((k : ℕ) × (j ≡ length fs + k) × (slice_get rest k ≡ Some c))
  field_at n [] rest j c h = inr (j, (let z : j ≡ 0 + j = omega arith in z), h)
  field_at n (f ∷ fs) rest zero c h = let e : Field n ≡ c = cc in inl (sym e ∙ ap Field (let z : n ≡ n + 0 = omega arith in z))
  field_at n (f ∷ fs) rest (suc j) c h =
      elim (field_at (n + 1) fs rest j c h) [
        | inl e ↦ inl (e ∙ ap Field (let z : n + 1 + j ≡ n + suc j = omega arith in z))
        | inr (k, e, g) ↦ inr (k, (let z : suc j ≡ length (f ∷ fs) + k = omega (arith, e) in z), g)
      ]

  -- a column's number is known from it
  numbered : (n : ℕ) (c : Column) → slice_get (columns_of p) n ≡ Some c → n ≡ number_of c
  unfolding number_of
  numbered zero c h = let e : Modes ≡ c = cc in ap number_of e
  numbered (suc zero) c h = let e : Owners ≡ c = cc in ap number_of e
  numbered (suc (suc zero)) c h = let e : Counts ≡ c = cc in ap number_of e
  numbered (suc (suc (suc zero))) c h = let e : OwnedSets ≡ c = cc in ap number_of e
  numbered (suc (suc (suc (suc zero)))) c h = let e : ClaimedSets ≡ c = cc in ap number_of e
  numbered (suc (suc (suc (suc (suc n))))) c h =
      elim (field_at 0 p.fields.items (shape_columns 0 p.shapes.items) n c h) [
        | inl e ↦ (let z : suc (suc (suc (suc (suc n)))) ≡ 5 + (0 + n) = omega arith in z ∙ ap number_of (sym e))
        | inr (k, e, g) ↦
            (let z : suc (suc (suc (suc (suc n)))) ≡ 5 + (length p.fields.items + (0 + k)) = omega (arith, e) in
            z ∙ ap number_of (sym (shape_at 0 p.shapes.items k c g)))
      ]

  -- a column has one number
  pub one_number : (C D : ℤ) (c : Column) → column_at p C ≡ Some c → column_at p D ≡ Some c → C ≡ D
  one_number (pos m) (pos n) c h k = ap pos (numbered m c h ∙ sym (numbered n c k))
  one_number (pos m) (negsuc n) c h k = absurd (cc)
  one_number (negsuc m) D c h k = absurd (cc)
