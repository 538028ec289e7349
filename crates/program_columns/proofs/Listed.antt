-- The columns by their numbers are those of each field and shape by itself.
use Rattle.std.specs.Prelude.{◌≡◌, ℕ, zero, suc, ◌+◌, List, [], ◌∷◌, ◌++◌, map, drop, Option, Some, slice_get}
use Rattle.std.proofs.Common.{refl, ap, ap₂, ◌∙◌, arith}
use Rattle.std.proofs.lemmas.List.{map-append}
use Rattle.method.specs.declared.program.FieldInfo.{FieldInfo}
use Rattle.method.specs.declared.program.Shape.{Shape}
use Rattle.method.specs.declared.program.Program.{Program}
use Rattle.method.specs.Tables.{field_type, sort_of_type}
use Rattle.terms.specs.declared.sort.Column.{Column}
use Rattle.terms.specs.declared.sort.Sort.TheVariants as s
use Rattle.term_meaning.specs.Columns as meaning
use Rattle.program_columns.specs.Columns.{column, fixed_columns, field_column, fields_columns, shape_column, shapes_columns}

-- the element at a place, and those behind
first_there : {X : Type 0} (xs : List X) (n : ℕ) (y : X) (ys : List X) → drop n xs ≡ y ∷ ys → slice_get xs n ≡ Some y
first_there [] zero y ys e = cc
first_there [] (suc n) y ys e = cc
first_there (x ∷ xs) zero y ys e = cc
first_there (x ∷ xs) (suc n) y ys e = first_there xs n y ys e

rest_there : {X : Type 0} (xs : List X) (n : ℕ) (y : X) (ys : List X) → drop n xs ≡ y ∷ ys → drop (suc n) xs ≡ ys
rest_there [] zero y ys e = cc
rest_there [] (suc n) y ys e = cc
rest_there (x ∷ xs) zero y ys e = cc
rest_there (x ∷ xs) (suc n) y ys e = rest_there xs n y ys e

behind : {X : Type 0} (xs : List X) (n : ℕ) (y : X) (ys : List X) → drop n xs ≡ y ∷ ys → drop (n + 1) xs ≡ ys
behind xs n y ys e =
    let next : n + 1 ≡ suc n = omega arith in
    ap (λ (k : ℕ). drop k xs) next ∙ rest_there xs n y ys e

module _ (p : Program) where
  fields_are : (n : ℕ) (fs : List FieldInfo) → drop n p.fields.items ≡ fs → map (meaning.sorts_of p) (meaning.field_columns n fs) ≡ fields_columns fs
  fields_are n [] e = refl
  fields_are n (f ∷ fs) e =
      let here : meaning.sorts_of p (meaning.Field n) ≡ field_column f = ap (λ (o : Option FieldInfo). column (s.Ref ∷ []) (meaning.term_sort (sort_of_type (field_type o)))) (first_there p.fields.items n f fs e) in
      ap₂ (λ (c : Column) (cs : List Column). c ∷ cs) here (fields_are (n + 1) fs (behind p.fields.items n f fs e))

  shapes_are : (n : ℕ) (shs : List Shape) → drop n p.shapes.items ≡ shs → map (meaning.sorts_of p) (meaning.shape_columns n shs) ≡ shapes_columns shs
  shapes_are n [] e = refl
  shapes_are n (sh ∷ shs) e =
      let here : meaning.sorts_of p (meaning.Shape n) ≡ shape_column sh = ap (λ (o : Option Shape). column (s.Ref ∷ map meaning.term_sort (meaning.holes o)) s.Int) (first_there p.shapes.items n sh shs e) in
      ap₂ (λ (c : Column) (cs : List Column). c ∷ cs) here (shapes_are (n + 1) shs (behind p.shapes.items n sh shs e))

pub columns_are : (p : Program) → meaning.column_sorts p ≡ fixed_columns ++ fields_columns p.fields.items ++ shapes_columns p.shapes.items
columns_are p =
    let whole = map-append (meaning.sorts_of p) (meaning.Modes ∷ meaning.Owners ∷ meaning.Counts ∷ meaning.OwnedSets ∷ meaning.ClaimedSets ∷ meaning.field_columns 0 p.fields.items) (meaning.shape_columns 0 p.shapes.items) in
    whole ∙ ap₂ (λ (cs ds : List Column). (fixed_columns ++ cs) ++ ds) (fields_are p 0 p.fields.items refl) (shapes_are p 0 p.shapes.items refl)
