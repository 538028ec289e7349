-- Forms of annotations that have a row.
use Rattle.std.specs.Prelude.{List, Option, Some, None}
use Rattle.typed_program.specs.Trees as t
use Rattle.typed_program.specs.Trees.{Spec}
use Rattle.elab_shapes.specs.declared.forms.RowForm.{RowForm}
use Rattle.elab_shapes.specs.declared.forms.RowForm.TheVariants.{Claims, Exists, ClaimsOnly}
use Rattle.elab_shapes.specs.Parts.{row}

-- Own: the form of an annotation that has a part and a row, with what else it holds; none of another
abbrev pub row_form : Spec → Option RowForm
row_form (t.SClaims x xs) = Some Claims
row_form (t.SExists n ty x ys) = Some (Exists n ty)
row_form (t.SClaimsOnly n x ys) = Some (ClaimsOnly n)
row_form _ = None

-- Own: an annotation of such a form, with this part and this row
abbrev pub with_row : RowForm → Spec → List Spec → Spec
with_row Claims x xs = t.SClaims x (row xs)
with_row (Exists n ty) x ys = t.SExists n ty x (row ys)
with_row (ClaimsOnly n) x ys = t.SClaimsOnly n x (row ys)
