-- What the values of a sort are. From many-sorted first-order logic. Own: a raw heap is one of values of its columns' sorts.
use Rattle.std.specs.Prelude.{◌≡◌, ℕ, Bool, true, ℤ, List, [], ◌∷◌, map, Some, slice_get}
use Rattle.object_types.specs.declared.references.Ref.{Ref}
use Rattle.object_types.specs.References.{is_reference}
use Rattle.method.specs.declared.program.Program.{Program}
use Rattle.method.specs.declared.program.Sort.{Sort as HoleSort}
use Rattle.method.specs.declared.program.Sort.TheVariants.{IntSort, RefSort}
use Rattle.method.specs.Tables.{type_of_field, sort_of_type}
use Rattle.method.specs.WellFormed.{has_sort}
use Rattle.terms.specs.declared.term.Term.{Term}
use Rattle.terms.specs.declared.sort.Sort.{Sort}
use Rattle.terms.specs.declared.sort.Sort.TheVariants as s
use Rattle.terms.specs.Sorts.{sort_in as sort_of}
use Rattle.term_meaning.specs.Columns.{column_sorts}
use Rattle.term_meaning.specs.RawHeaps.{RawHeap, Place, OwnerAt, FieldAt}
use Rattle.term_meaning.specs.Meaning.{Value, BoolValue, HeapValue, int_value, ref_value, Language, quantified_sorts}

-- the sort of what a place holds
abbrev pub place_sort : Program → Place → HoleSort
place_sort p OwnerAt = RefSort
place_sort p (FieldAt f) = sort_of_type (type_of_field p f)
place_sort p c = IntSort

-- each value of the raw heap is of its column's sort
pub record IsSorted (p : Program) (x : RawHeap) : Type 0 where
  pub each : (c : Place) (o : Ref) → has_sort (place_sort p c) (x c o) ≡ true

-- the value is of the sort; a reference is one that there is
abbrev pub HasSort : Program → Sort → Value → Type 0
HasSort p s.Int x = (z : ℤ) × (x ≡ int_value z)
HasSort p s.Ref x = (r : Ref) × (x ≡ ref_value r) × (is_reference r ≡ true)
HasSort p s.Heap x = (h : RawHeap) × (x ≡ HeapValue h) × IsSorted p h
HasSort p s.Bool x = (b : Bool) × (x ≡ BoolValue b)

-- the values are of these sorts, one each
abbrev pub HaveSorts : Program → List Sort → List Value → Type 0
HaveSorts p [] xs = xs ≡ []
HaveSorts p (s ∷ ss) xs = (y : Value) × (ys : List Value) × (xs ≡ y ∷ ys) × HasSort p s y × HaveSorts p ss ys

-- each term of the list has this sort
abbrev pub AreSorts : Language → List Term → (ℕ → Sort) → Type 0
AreSorts l terms sorts = (i : ℕ) (t : Term) → slice_get terms i ≡ Some t → sort_of t.kind t.index (map sorts t.args) (column_sorts l.program) (quantified_sorts l) ≡ Some (sorts i)
