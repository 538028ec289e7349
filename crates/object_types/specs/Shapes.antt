-- What claims were made with. A claim's property is a conjunction; each conjunct is a shape, which is its tree with holes, and the values of the holes. The list stands in order, each conjunct once. Claims are of CAV 2010, section 5; the entries are own.
use Rattle.std.specs.Prelude.{Bool, not, ◌&&◌, ◌||◌, ◌==◌, nat_lt, if◌then◌else◌, List, [], ◌∷◌, filter}
use Rattle.object_types.specs.declared.shapes.Entry.{Entry}
use Rattle.object_types.specs.Values.{same_values, values_lt}
use Rattle.object_types.specs.Places.{placed}
use Rattle.object_types.specs.Sets.{some}

abbrev pub entry_lt : Entry → Entry → Bool
entry_lt a b = nat_lt a.shape b.shape || ((a.shape == b.shape) && values_lt a.values b.values)

abbrev pub same_entry : Entry → Entry → Bool
same_entry a b = (a.shape == b.shape) && same_values a.values b.values

abbrev pub has_entry : Entry → List Entry → Bool
has_entry e es = some (same_entry e) es

abbrev pub with_entry : Entry → List Entry → List Entry
with_entry = placed entry_lt same_entry

abbrev pub without_entry : Entry → List Entry → List Entry
without_entry e = filter (λ d. not (same_entry d e))

-- the list where e is a conjunct, or isn't
abbrev pub set_entry : Entry → Bool → List Entry → List Entry
set_entry e holds es = if holds then with_entry e es else without_entry e es

abbrev pub entries_of : List Entry → List Entry
entries_of [] = []
entries_of (e ∷ es) = with_entry e (entries_of es)
