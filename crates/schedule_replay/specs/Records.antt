-- How a heap's records are printed, behind a clean replay. Own: a line for each reference that was ever used, in reference order (by type, then by serial).
use Rattle.std.specs.Prelude.{ℕ, zero, suc, ◌+◌, Bool, not, if◌then◌else◌, List, [], ◌∷◌, ◌++◌, filter, nat_lt, codes, Option, Some, None, slice_get}
use Rattle.std.specs.Fmt.{signed_decimal}
use Rattle.std.specs.List.{flat_map}
use Rattle.object_types.specs.declared.references.Ref.{Ref}
use Rattle.object_types.specs.declared.records.Mode.{Mode}
use Rattle.object_types.specs.declared.records.Mode.TheVariants.{Absent, Open, Closed, Freed}
use Rattle.object_types.specs.References.{ref, is_claim}
use Rattle.object_types.specs.Sets.{set_of}
use Rattle.object_types.specs.Heap.{Heap, is_absent}
use Rattle.method.specs.declared.program.FieldInfo.{FieldInfo}
use Rattle.method.specs.declared.program.StructInfo.{StructInfo}
use Rattle.method.specs.declared.program.Program.{Program}
use Rattle.method.specs.Tables.{read, struct_of}
use Rattle.schedule_replay.specs.Pieces.{ref_text, value_text}

-- something was ever made at the reference
abbrev pub is_used : Heap → Ref → Bool
is_used h o = not (is_absent (h.get o).mode)

-- the references that were ever used, in reference order
unfoldable pub references : Heap → List Ref
references h = filter (is_used h) (set_of h.support)

-- the word for a mode
abbrev pub mode_text : Mode → List ℕ
mode_text Absent = codes "absent"
mode_text Open = codes "open"
mode_text Closed = codes "closed"
mode_text Freed = codes "freed"

-- references, with a space between each two
abbrev pub spaced : List Ref → List ℕ
spaced [] = []
spaced (r ∷ rs) = ref_text r ++ flat_map (λ q. 32 ∷ ref_text q) rs

-- a set, in braces
unfoldable pub members_text : List Ref → List ℕ
members_text rs = codes "{" ++ (spaced rs ++ codes "}")

-- f=v behind a space, where the program's table has the field
abbrev pub named_text : Program → Heap → Ref → ℕ → Option FieldInfo → List ℕ
named_text p h o f None = []
named_text p h o f (Some info) = codes " " ++ (info.name.items ++ (codes "=" ++ value_text (read p h o f)))

-- the field with this number and its value; numbers of fields have 32 bits
abbrev pub field_text : Program → Heap → Ref → ℕ → List ℕ
field_text p h o f = if nat_lt f 4294967296 then named_text p h o f (slice_get p.fields.items f) else []

-- so many fields from this number on
unfoldable pub fields_from : Program → Heap → Ref → ℕ → ℕ → List ℕ
fields_from p h o f zero = []
fields_from p h o f (suc n) = field_text p h o f ++ fields_from p h o (f + 1) n

-- the fields of a struct's objects
abbrev pub fields_text : Program → Heap → Ref → Option StructInfo → List ℕ
fields_text p h o None = []
fields_text p h o (Some info) = fields_from p h o info.first_field info.fields

-- of a claim the objects that it claims, of an object its owned set and its fields
unfoldable pub content_text : Program → Heap → Ref → List ℕ
content_text p h o =
    if is_claim o
    then codes " lists " ++ members_text (h.get o).listed
    else codes " owns " ++ (members_text (h.get o).owned ++ fields_text p h o (struct_of p o.ty))

-- REF MODE OWNER count N
unfoldable pub heading_text : Heap → Ref → List ℕ
heading_text h o = ref_text o ++ (codes " " ++ (mode_text (h.get o).mode ++ (codes " " ++ (ref_text (h.get o).owner ++ (codes " count " ++ signed_decimal (h.get o).count)))))

-- the line of a record
unfoldable pub record_text : Program → Heap → Ref → List ℕ
record_text p h o = heading_text h o ++ (content_text p h o ++ codes "\n")

-- the line of a reference that was ever used; of another nothing
abbrev pub used_text : Program → Heap → Ref → List ℕ
used_text p h o = if is_used h o then record_text p h o else []

-- the lines of all references that were ever used
unfoldable pub records_text : Program → Heap → List ℕ
records_text p h = flat_map (record_text p h) (references h)

-- the next reference of 32 bits in reference order
abbrev pub following : Ref → Option Ref
following o = if nat_lt o.serial 4294967295 then Some (ref o.ty (o.serial + 1)) else (if nat_lt o.ty 4294967295 then Some (ref (o.ty + 1) 0) else None)
