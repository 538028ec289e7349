-- Raw heaps: what heap terms stand for. A raw heap gives each column a value at each reference and further keys, whatever it is; a heap of the program is one of them. From the theory of arrays (McCarthy 1962): what is stored at a place is read there, and every other place is as it was. Own: the places.
use Rattle.std.specs.Prelude.{◌≡◌, ℕ, Bool, true, false, ◌&&◌, ◌==◌, if◌then◌else◌, ℤ, pos, List, get_or}
use Rattle.object_types.specs.declared.references.Ref.{Ref}
use Rattle.object_types.specs.declared.values.Value.{Value as Scalar}
use Rattle.object_types.specs.declared.values.Value.TheVariants.{Int, Ref as Refers}
use Rattle.object_types.specs.declared.records.Mode.{Mode}
use Rattle.object_types.specs.declared.records.Mode.TheVariants.{Absent, Open, Closed, Freed}
use Rattle.object_types.specs.References.{null, same_ref}
use Rattle.object_types.specs.Values.{referent, says, or_zero, same_value, same_values}
use Rattle.object_types.specs.Sets.{is_in}
use Rattle.object_types.specs.Shapes.{has_entry}
use Rattle.object_types.specs.Heap.{Heap, Record}
use Rattle.method.specs.declared.program.Program.{Program}
use Rattle.method.specs.Tables.{zero_of, type_of_field}
use Rattle.method.specs.WellFormed.{IsHeapOf}
use Rattle.term_meaning.specs.Columns.{Column, Modes, Owners, Counts, OwnedSets, ClaimedSets, Field, Shape}

-- A place of a reference: a column with the keys behind the reference. Keys that a column doesn't take stand in no place, so what is stored under one name is read under it.
pub data Place : Type 0 where
  ModeAt : Place
  OwnerAt : Place
  CountAt : Place
  MemberAt : Ref → Place
  ClaimedAt : Ref → Place
  FieldAt : ℕ → Place
  ShapeAt : ℕ → List Scalar → Place

-- A value at each place of each reference: a heap as an array of arrays.
abbrev pub RawHeap : Type 0
RawHeap = Place → Ref → Scalar

-- a mode as the integer that the column of modes holds
abbrev pub mode_number : Mode → ℤ
mode_number Absent = pos 0
mode_number Open = pos 1
mode_number Closed = pos 2
mode_number Freed = pos 3

-- the reference that is the only key behind the first; NULL where there is none
abbrev pub member_key : List Scalar → Ref
member_key ks = referent (get_or ks 0 (Refers null))

-- the place of a column at these further keys
abbrev pub place_of : Column → List Scalar → Place
place_of Modes ks = ModeAt
place_of Owners ks = OwnerAt
place_of Counts ks = CountAt
place_of OwnedSets ks = MemberAt (member_key ks)
place_of ClaimedSets ks = ClaimedAt (member_key ks)
place_of (Field f) ks = FieldAt f
place_of (Shape n) ks = ShapeAt n ks

-- the value that a record of the program has at a place; a field that was never written holds the zero of its type
abbrev pub record_value : Program → Record → Place → Scalar
record_value p r ModeAt = Int (mode_number r.mode)
record_value p r OwnerAt = Refers r.owner
record_value p r CountAt = Int r.count
record_value p r (MemberAt q) = says (is_in q r.owned)
record_value p r (ClaimedAt q) = says (is_in q r.listed)
record_value p r (FieldAt f) = or_zero (zero_of (type_of_field p f)) (r.fields f)
record_value p r (ShapeAt n vs) = says (has_entry (record { shape = n; values = vs }) r.shapes)

-- a heap of the program as a raw heap
abbrev pub raw : Program → Heap → RawHeap
raw p h c o = record_value p (h.get o) c

-- x is the raw heap of h, which is a heap of the program
pub record Shows (p : Program) (h : Heap) (x : RawHeap) : Type 0 where
  pub proper : IsHeapOf p h
  pub is : x ≡ raw p h

-- The columns of a reference, by their names. A reference is a member of a set where the set's column holds 1, and closed where its mode is 2.
abbrev pub mode_at : RawHeap → Ref → Scalar
mode_at x o = x ModeAt o

abbrev pub owner_at : RawHeap → Ref → Scalar
owner_at x o = x OwnerAt o

abbrev pub count_at : RawHeap → Ref → Scalar
count_at x o = x CountAt o

abbrev pub is_one : Scalar → Bool
is_one v = same_value v (Int (pos 1))

abbrev pub owns : RawHeap → Ref → Ref → Bool
owns x o q = is_one (x (MemberAt q) o)

abbrev pub lists : RawHeap → Ref → Ref → Bool
lists x c q = is_one (x (ClaimedAt q) c)

abbrev pub closed : RawHeap → Ref → Bool
closed x o = same_value (mode_at x o) (Int (pos 2))

-- whether two places are one
abbrev pub same_place : Place → Place → Bool
same_place ModeAt ModeAt = true
same_place OwnerAt OwnerAt = true
same_place CountAt CountAt = true
same_place (MemberAt q) (MemberAt r) = same_ref q r
same_place (ClaimedAt q) (ClaimedAt r) = same_ref q r
same_place (FieldAt f) (FieldAt g) = f == g
same_place (ShapeAt m vs) (ShapeAt n ws) = (m == n) && same_values vs ws
same_place c d = false

-- x with v at one place of o, as an array is stored to
abbrev pub store_at : RawHeap → Place → Ref → Scalar → RawHeap
store_at x c o v d q = if same_place d c && same_ref q o then v else x d q

-- x with o in this mode, and the members of its owned set with this owner
abbrev pub with_members : ℤ → Ref → RawHeap → Ref → RawHeap
with_members mode owner x o ModeAt q = if same_ref q o then Int mode else x ModeAt q
with_members mode owner x o OwnerAt q = if owns x o q then Refers owner else x OwnerAt q
with_members mode owner x o d q = x d q

-- x with o opened by t, whose its members are then
abbrev pub open_object : RawHeap → Ref → Ref → RawHeap
open_object x o t = with_members (pos 1) t x o

-- x with o closed, whose its members are then
abbrev pub close_object : RawHeap → Ref → RawHeap
close_object x o = with_members (pos 2) o x o

-- x with the owned set of o empty
abbrev pub clear_set : RawHeap → Ref → RawHeap
clear_set x o (MemberAt m) q = if same_ref q o then Int (pos 0) else x (MemberAt m) q
clear_set x o d q = x d q
