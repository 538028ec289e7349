-- The columns of a program by their numbers.
use Rattle.std.specs.Prelude.{◌≡◌, ℕ, zero, suc, ◌-◌, ◌+◌, ◌<◌, ◌≤◌, List, [], ◌∷◌, ◌++◌, length, Some, None, slice_get}
use Rattle.std.proofs.Common.{refl, sym, ap, ◌∙◌, subst, arith}
use Rattle.method.specs.declared.program.Program.{Program}
use Rattle.method.specs.declared.program.FieldInfo.{FieldInfo}
use Rattle.method.specs.declared.program.Shape.{Shape as ShapeInfo}
use Rattle.term_meaning.specs.Columns.{Column, Field, Shape, field_columns, shape_columns, columns_of}

field_at : (k : ℕ) (fs : List FieldInfo) (rest : List Column) (n : ℕ) → n < length fs → slice_get (field_columns k fs ++ rest) n ≡ Some (Field (k + n))
field_at k [] rest n below = absurd (omega arith)
field_at k (f ∷ fs) rest zero below =
    let here : k ≡ k + 0 = omega arith in
    ap (λ (m : ℕ). Some (Field m)) here
field_at k (f ∷ fs) rest (suc n) below =
    let next : k + 1 + n ≡ k + suc n = omega arith in
    field_at (k + 1) fs rest n (omega (arith, below)) ∙ ap (λ (m : ℕ). Some (Field m)) next

behind_fields : (k : ℕ) (fs : List FieldInfo) (rest : List Column) (n : ℕ) → length fs ≤ n → slice_get (field_columns k fs ++ rest) n ≡ slice_get rest (n - length fs)
behind_fields k [] rest n above =
    let all : n ≡ n - 0 = omega arith in
    ap (λ (m : ℕ). slice_get rest m) all
behind_fields k (f ∷ fs) rest zero above = absurd (omega (arith, above))
behind_fields k (f ∷ fs) rest (suc n) above =
    let less : n - length fs ≡ suc n - suc (length fs) = omega arith in
    behind_fields (k + 1) fs rest n (omega (arith, above)) ∙ ap (λ (m : ℕ). slice_get rest m) less

shape_at : (k : ℕ) (ss : List ShapeInfo) (n : ℕ) → n < length ss → slice_get (shape_columns k ss) n ≡ Some (Shape (k + n))
shape_at k [] n below = absurd (omega arith)
shape_at k (s ∷ ss) zero below =
    let here : k ≡ k + 0 = omega arith in
    ap (λ (m : ℕ). Some (Shape m)) here
shape_at k (s ∷ ss) (suc n) below =
    let next : k + 1 + n ≡ k + suc n = omega arith in
    shape_at (k + 1) ss n (omega (arith, below)) ∙ ap (λ (m : ℕ). Some (Shape m)) next

no_shape_at : (k : ℕ) (ss : List ShapeInfo) (n : ℕ) → length ss ≤ n → slice_get (shape_columns k ss) n ≡ None
no_shape_at k [] n above = refl
no_shape_at k (s ∷ ss) zero above = absurd (omega (arith, above))
no_shape_at k (s ∷ ss) (suc n) above = no_shape_at (k + 1) ss n (omega (arith, above))

pub a_field : (p : Program) (n : ℕ) → n < length p.fields.items → Some (Field n) ≡ slice_get (field_columns 0 p.fields.items ++ shape_columns 0 p.shapes.items) n
a_field p n below =
    let same : 0 + n ≡ n = omega arith in
    sym (field_at 0 p.fields.items (shape_columns 0 p.shapes.items) n below ∙ ap (λ (m : ℕ). Some (Field m)) same)

pub a_shape : (p : Program) (n m : ℕ) → length p.fields.items ≤ n → m ≡ n - length p.fields.items → m < length p.shapes.items → Some (Shape m) ≡ slice_get (field_columns 0 p.fields.items ++ shape_columns 0 p.shapes.items) n
a_shape p n m above is below =
    let same : 0 + m ≡ m = omega arith in
    sym (behind_fields 0 p.fields.items (shape_columns 0 p.shapes.items) n above ∙ ap (λ (i : ℕ). slice_get (shape_columns 0 p.shapes.items) i) (sym is) ∙ shape_at 0 p.shapes.items m below ∙ ap (λ (i : ℕ). Some (Shape i)) same)

pub no_column : (p : Program) (n m : ℕ) → length p.fields.items ≤ n → m ≡ n - length p.fields.items → length p.shapes.items ≤ m → None ≡ slice_get (field_columns 0 p.fields.items ++ shape_columns 0 p.shapes.items) n
no_column p n m above is below = sym (behind_fields 0 p.fields.items (shape_columns 0 p.shapes.items) n above ∙ ap (λ (i : ℕ). slice_get (shape_columns 0 p.shapes.items) i) (sym is) ∙ no_shape_at 0 p.shapes.items m below)

-- the content's columns come behind five
pub behind_status : (p : Program) (n m : ℕ) → 5 ≤ n → m ≡ n - 5 → slice_get (field_columns 0 p.fields.items ++ shape_columns 0 p.shapes.items) m ≡ slice_get (columns_of p) n
behind_status p n m above is = subst (λ (k : ℕ). slice_get (field_columns 0 p.fields.items ++ shape_columns 0 p.shapes.items) m ≡ slice_get (columns_of p) k) whole refl
  where
    whole : suc (suc (suc (suc (suc m)))) ≡ n
    whole = omega (arith, is, above)
