-- The columns of a program's heaps, and their sorts. From CAV 2010 and VCC's encoding of heaps: a heap is a map from places to values. Own: mode, owner, claim count, owned set, claimed set, then the fields of all structs in source order, then the shapes of claims' conjuncts.
use Rattle.std.specs.Prelude.{ℕ, ◌+◌, List, [], ◌∷◌, ◌++◌, map, Option, Some, None, slice_get}
use Rattle.method.specs.declared.program.Program.{Program}
use Rattle.method.specs.declared.program.FieldInfo.{FieldInfo}
use Rattle.method.specs.declared.program.Shape.{Shape as ShapeInfo}
use Rattle.method.specs.declared.program.Sort.{Sort as HoleSort}
use Rattle.method.specs.declared.program.Sort.TheVariants.{IntSort, RefSort}
use Rattle.method.specs.Tables.{type_of_field, sort_of_type}
use Rattle.terms.specs.declared.sort.Sort.{Sort}
use Rattle.terms.specs.declared.sort.Sort.TheVariants as s
use Rattle.terms.specs.declared.sort.Column.{Column as Sorted}

-- A column: what a heap has of each reference under one name. A field and a shape have their numbers in the program's tables.
pub data Column : Type 0 where
  Modes : Column
  Owners : Column
  Counts : Column
  OwnedSets : Column
  ClaimedSets : Column
  Field : ℕ → Column
  Shape : ℕ → Column

-- the columns of these fields, from this number on
abbrev pub field_columns : ℕ → List FieldInfo → List Column
field_columns n [] = []
field_columns n (f ∷ fs) = Field n ∷ field_columns (n + 1) fs

-- the columns of these shapes, from this number on
abbrev pub shape_columns : ℕ → List ShapeInfo → List Column
shape_columns n [] = []
shape_columns n (s ∷ ss) = Shape n ∷ shape_columns (n + 1) ss

-- the columns of a program, by their numbers
abbrev pub columns_of : Program → List Column
columns_of p = Modes ∷ Owners ∷ Counts ∷ OwnedSets ∷ ClaimedSets ∷ field_columns 0 p.fields.items ++ shape_columns 0 p.shapes.items

-- the sort of terms of a sort of values
abbrev pub term_sort : HoleSort → Sort
term_sort IntSort = s.Int
term_sort RefSort = s.Ref

-- the sorts of a shape's holes
abbrev pub holes : Option ShapeInfo → List HoleSort
holes None = []
holes (Some sh) = sh.holes.items

-- the sorts of the keys behind the first, which is a reference
abbrev pub further_keys : Program → Column → List Sort
further_keys p OwnedSets = s.Ref ∷ []
further_keys p ClaimedSets = s.Ref ∷ []
further_keys p (Shape n) = map term_sort (holes (slice_get p.shapes.items n))
further_keys p c = []

-- the sort of what a column holds; a member, a mode and a shape are integers
abbrev pub value_sort : Program → Column → HoleSort
value_sort p Owners = RefSort
value_sort p (Field f) = sort_of_type (type_of_field p f)
value_sort p c = IntSort

-- the sorts of a column: of all its keys, and of its value
abbrev pub sorts_of : Program → Column → Sorted
sorts_of p c = record { keys = s.Ref ∷ further_keys p c; value = term_sort (value_sort p c) }

-- the sorts of the columns, by their numbers
abbrev pub column_sorts : Program → List Sorted
column_sorts p = map (sorts_of p) (columns_of p)
