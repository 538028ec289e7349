-- A stored record before and after a change.
use Rattle.std.proofs.Common.{◌≡◌, ℕ, List, ap, ◌∙◌}
use Rattle.std.specs.Prelude.{Result, Ok, Err, OnOk}
use Rattle.object_types.specs.declared.values.Value.{Value}
use Rattle.object_types.specs.declared.fields.Kept.{Kept}
use Rattle.object_types.specs.declared.records.Stored.{Stored}
use Rattle.object_types.specs.Fields.{with_kept}
use Rattle.object_types.specs.Heap.{with_field}
use Rattle.object_types.specs.Lookups.{record_of}
use Rattle.object_types.proofs.FieldChanges.{field_in_with_kept}

pub on_ok_map : {T E : Type 0} (r : Result T E) (P Q : Type 0) → (P → Q) → OnOk r P → OnOk r Q
on_ok_map (Ok x) P Q f h = f h
on_ok_map (Err e) P Q f h = h

written : (s : Stored) (f : ℕ) (v : Value) → record_of (record s { fields = with_kept f v s.fields }) ≡ with_field f v (record_of s)
written s f v = λ i. record (record_of s) { fields = λ g. field_in_with_kept f v s.fields g i }

pub record_written : (s : Stored) (f : ℕ) (v : Value) (new : List Kept) → new ≡ with_kept f v s.fields → record_of (record s { fields = new }) ≡ with_field f v (record_of s)
record_written s f v new e = ap (λ ks. record_of (record s { fields = ks })) e ∙ written s f v
