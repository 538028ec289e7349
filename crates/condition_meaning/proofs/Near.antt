-- What the meaning of annotations asks of a heap: sorts of its values, owned sets and claimed sets of references, entries of their shapes. Each heap of a program has it, and so has one with a field of NULL set.
use Rattle.std.proofs.Common.{◌≡◌, ℕ, true, Option, Some, None, slice_get, refl}
use Rattle.object_types.specs.declared.references.Ref.{Ref}
use Rattle.object_types.specs.declared.values.Value.{Value}
use Rattle.object_types.specs.References.{is_reference}
use Rattle.object_types.specs.Sets.{every}
use Rattle.object_types.specs.Values.{or_zero}
use Rattle.object_types.specs.Heap.{Heap}
use Rattle.method.specs.declared.program.DeclaredType.{DeclaredType}
use Rattle.method.specs.declared.program.DeclaredType.TheVariants.{Integer, Pointer, Object, Claim}
use Rattle.method.specs.declared.program.Program.{Program}
use Rattle.method.specs.Tables.{type_of_field, sort_of_type, zero_of}
use Rattle.method.specs.WellFormed.{IsHeapOf, has_sort, is_entry}
use Rattle.term_meaning.specs.RawHeaps.{RawHeap, FieldAt, raw}

pub record Near (p : Program) (h : Heap) : Type 0 where
  pub owned_are : (o : Ref) → every is_reference (h.get o).owned ≡ true
  pub listed_are : (o : Ref) → every is_reference (h.get o).listed ≡ true
  pub values_are : (o : Ref) (f : ℕ) (v : Value) → (h.get o).fields f ≡ Some v → has_sort (sort_of_type (type_of_field p f)) v ≡ true
  pub entries : (o : Ref) → every (λ e. is_entry (slice_get p.shapes.items e.shape) e.values) (h.get o).shapes ≡ true

pub near_of : {p : Program} {h : Heap} → IsHeapOf p h → Near p h
near_of proper = record { owned_are = proper.owned_are; listed_are = proper.listed_are; values_are = proper.values_are; entries = proper.entries }

-- columns that show it
pub record NearShows (p : Program) (h : Heap) (x : RawHeap) : Type 0 where
  pub proper : Near p h
  pub is : x ≡ raw p h

zero_sorted : (ty : DeclaredType) → has_sort (sort_of_type ty) (zero_of ty) ≡ true
zero_sorted (Integer c) = refl
zero_sorted (Pointer n) = refl
zero_sorted Object = refl
zero_sorted Claim = refl

read_sorted : (ty : DeclaredType) (v : Option Value) → ((w : Value) → v ≡ Some w → has_sort (sort_of_type ty) w ≡ true) → has_sort (sort_of_type ty) (or_zero (zero_of ty) v) ≡ true
read_sorted ty None h = zero_sorted ty
read_sorted ty (Some v) h = h v refl

pub field_near : (p : Program) (h : Heap) → Near p h → (f : ℕ) (o : Ref) → has_sort (sort_of_type (type_of_field p f)) (raw p h (FieldAt f) o) ≡ true
field_near p h proper f o = read_sorted (type_of_field p f) ((h.get o).fields f) (proper.values_are o f)
