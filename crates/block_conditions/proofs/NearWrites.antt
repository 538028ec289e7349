-- A heap with a reference stored in a field of any object, NULL too.
use Rattle.std.proofs.Common.{◌≡◌, ℕ, true, false, Some, slice_get, sym, subst}
use Rattle.object_types.specs.declared.references.Ref.{Ref}
use Rattle.object_types.specs.declared.values.Value.{Value}
use Rattle.object_types.specs.declared.values.Value.TheVariants.{Ref as Refers}
use Rattle.object_types.specs.References.{is_reference}
use Rattle.object_types.specs.Sets.{every}
use Rattle.object_types.specs.Heap.{Heap, write, with_field}
use Rattle.method.specs.declared.program.DeclaredType.{DeclaredType}
use Rattle.method.specs.declared.program.DeclaredType.TheVariants.{Integer, Pointer, Object, Claim}
use Rattle.method.specs.declared.program.Program.{Program}
use Rattle.method.specs.Tables.{type_of_field, sort_of_type}
use Rattle.method.specs.WellFormed.{IsHeapOf, has_sort, is_entry}
use Rattle.method.specs.Typing.{are_ints, declared}
use Rattle.machine_laws.proofs.Heaps.{at_put}
use Rattle.machine_laws.proofs.Records.{field_at, kept_some}
use Rattle.condition_meaning.proofs.Near.{Near}

pub near_write : (p : Program) (h : Heap) (o : Ref) (z : ℕ) (v : Value) → IsHeapOf p h → has_sort (sort_of_type (type_of_field p z)) v ≡ true → Near p (write h o z v)
near_write p h o z v proper sort = record {
  owned_are = at_put (λ q s. every is_reference s.owned ≡ true) h o (with_field z v (h.get o)) (proper.owned_are o) (λ q d. proper.owned_are q);
  listed_are = at_put (λ q s. every is_reference s.listed ≡ true) h o (with_field z v (h.get o)) (proper.listed_are o) (λ q d. proper.listed_are q);
  values_are = at_put (λ q s. (f : ℕ) (w : Value) → s.fields f ≡ Some w → has_sort (sort_of_type (type_of_field p f)) w ≡ true) h o (with_field z v (h.get o))
      (λ g w. field_at z v (h.get o) g (λ x. x ≡ Some w → has_sort (sort_of_type (type_of_field p g)) w ≡ true)
      (λ s e. subst (λ (m : ℕ). has_sort (sort_of_type (type_of_field p m)) w ≡ true) (sym s) (subst (λ (x : Value). has_sort (sort_of_type (type_of_field p z)) x ≡ true) (kept_some v w e) sort)) (λ n. proper.values_are o g w))
      (λ q d. proper.values_are q);
  entries = at_put (λ q s. every (λ e. is_entry (slice_get p.shapes.items e.shape) e.values) s.shapes ≡ true) h o (with_field z v (h.get o)) (proper.entries o) (λ q d. proper.entries q);
}

-- references are of the sort of a field that isn't of integers
pub reference_sort : (ty : DeclaredType) → are_ints (declared ty) ≡ false → (r : Ref) → is_reference r ≡ true → has_sort (sort_of_type ty) (Refers r) ≡ true
reference_sort (Integer c) h r e = absurd (cc)
reference_sort (Pointer n) h r e = e
reference_sort Object h r e = e
reference_sort Claim h r e = e
