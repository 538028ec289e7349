-- The columns of fields and of shapes, each by itself. Own: the same as column_sorts of term_meaning, without numbers.
use Rattle.std.specs.Prelude.{List, [], ◌∷◌, map}
use Rattle.method.specs.declared.program.FieldInfo.{FieldInfo}
use Rattle.method.specs.declared.program.Shape.{Shape}
use Rattle.method.specs.declared.program.Sort.{Sort as HoleSort}
use Rattle.method.specs.Tables.{sort_of_type}
use Rattle.terms.specs.declared.sort.Sort.{Sort}
use Rattle.terms.specs.declared.sort.Sort.TheVariants as s
use Rattle.terms.specs.declared.sort.Column.{Column}
use Rattle.term_meaning.specs.Columns.{term_sort}

abbrev pub column : List Sort → Sort → Column
column keys value = record { keys = keys; value = value }

-- mode, owner, claim count, owned set, claimed set
abbrev pub fixed_columns : List Column
fixed_columns = column (s.Ref ∷ []) s.Int ∷ column (s.Ref ∷ []) s.Ref ∷ column (s.Ref ∷ []) s.Int ∷ column (s.Ref ∷ s.Ref ∷ []) s.Int ∷ column (s.Ref ∷ s.Ref ∷ []) s.Int ∷ []

abbrev pub field_column : FieldInfo → Column
field_column f = column (s.Ref ∷ []) (term_sort (sort_of_type f.ty))

abbrev pub fields_columns : List FieldInfo → List Column
fields_columns fs = map field_column fs

-- a reference, and what fills the holes
abbrev pub hole_sorts : List HoleSort → List Sort
hole_sorts holes = s.Ref ∷ map term_sort holes

abbrev pub shape_column : Shape → Column
shape_column sh = column (hole_sorts sh.holes.items) s.Int

abbrev pub shapes_columns : List Shape → List Column
shapes_columns shs = map shape_column shs
