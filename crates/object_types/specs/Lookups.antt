-- The code's heap: a list of stored records in reference order, each reference once, read as a heap. Own.
use Rattle.std.specs.Prelude.{◌≡◌, ℕ, ◌^◌, Bool, true, not, ◌&&◌, nat_lt, ◌==◌, List, length, map, Option, Some, None}
use Rattle.std.specs.List.{find}
use Rattle.object_types.specs.declared.references.Ref.{Ref}
use Rattle.object_types.specs.declared.records.Stored.{Stored}
use Rattle.object_types.specs.declared.records.Change.{Change}
use Rattle.object_types.specs.declared.records.Change.TheVariants.{Status, Count, Field, Owned, Listed, Shape}
use Rattle.object_types.specs.References.{same_ref, ref_lt, is_null}
use Rattle.object_types.specs.Values.{is_zero_int}
use Rattle.object_types.specs.Places.{is_ordered}
use Rattle.object_types.specs.Sets.{every}
use Rattle.object_types.specs.Shapes.{entry_lt}
use Rattle.object_types.specs.Fields.{kept_lt, is_set, field_in}
use Rattle.object_types.specs.Heap.{Record, Heap, nothing, is_absent, with_status, with_count, with_field, with_owned, with_listed, with_shape}

abbrev pub reference_of : Stored → Ref
reference_of s = s.reference

abbrev pub serial_of : Stored → ℕ
serial_of s = s.reference.serial

abbrev pub stored_lt : Stored → Stored → Bool
stored_lt a b = ref_lt a.reference b.reference

-- the record that is stored
abbrev pub record_of : Stored → Record
record_of s = record { mode = s.mode; owner = s.owner; count = s.count; owned = s.owned; fields = (λ f. field_in s.fields f); listed = s.listed; shapes = s.shapes }

abbrev pub record_or_nothing : Option Stored → Record
record_or_nothing None = nothing
record_or_nothing (Some s) = record_of s

-- what the list has at a reference
abbrev pub look_up : List Stored → Ref → Record
look_up stored o = record_or_nothing (find (λ s. same_ref o s.reference) stored)

-- the heap that the list is
abbrev pub heap_of : List Stored → Heap
heap_of stored = record { get = look_up stored; support = map reference_of stored }

-- what a change makes of a record
abbrev pub changed : Change → Record → Record
changed (Status mode owner) r = with_status mode owner r
changed (Count count) r = with_count count r
changed (Field field value) r = with_field field value r
changed (Owned member holds) r = with_owned member holds r
changed (Listed object holds) r = with_listed object holds r
changed (Shape entry holds) r = with_shape entry holds r

-- sets and rows in order, no kept field 0 or NULL, a reference of 32 bits each
abbrev pub is_tidy : Stored → Bool
is_tidy s = nat_lt s.reference.serial (2 ^ 32) && (nat_lt s.reference.ty (2 ^ 32) && (is_ordered ref_lt s.owned && (is_ordered ref_lt s.listed && (is_ordered kept_lt s.fields && (every is_set s.fields && is_ordered entry_lt s.shapes)))))

-- what is stored says nothing: as if nothing stood there
abbrev pub is_blank : Stored → Bool
is_blank s = is_absent s.mode && is_null s.owner && is_zero_int s.count && length s.owned == 0 && length s.fields == 0 && length s.listed == 0 && length s.shapes == 0

-- the reference isn't before `from`, and the record says something
abbrev pub says_from : Ref → Stored → Bool
says_from from s = not (ref_lt s.reference from) && not (is_blank s)

-- an object of the type is or was at the reference, which isn't the type's last
abbrev pub is_present : ℕ → Stored → Bool
is_present ty s = (s.reference.ty == ty) && (nat_lt s.reference.serial 4294967295 && not (is_absent s.mode))

-- what every heap of the code keeps: each reference once and in order, and every record tidy
pub record IsKept (stored : List Stored) : Type 0 where
  pub ordered : is_ordered stored_lt stored ≡ true
  pub tidy : every is_tidy stored ≡ true
