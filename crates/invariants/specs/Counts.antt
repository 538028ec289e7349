-- Claim counts and approved fields in two heaps. Own.
use Rattle.std.specs.Prelude.{ℕ, suc, Bool, true, false, not, ◌&&◌, ◌||◌, List, [], ◌∷◌, Option, Some, None}
use Rattle.object_types.specs.declared.references.Ref.{Ref}
use Rattle.object_types.specs.declared.values.Value.{Value}
use Rattle.object_types.specs.References.{same_ref}
use Rattle.object_types.specs.Values.{same_int, same_value}
use Rattle.object_types.specs.Heap.{Heap, Record}
use Rattle.method.specs.declared.program.FieldInfo.{FieldInfo}
use Rattle.method.specs.declared.program.Program.{Program}
use Rattle.method.specs.Tables.{is_approved}

-- the same value is kept, or none
abbrev pub same_kept_value : Option Value → Option Value → Bool
same_kept_value None None = true
same_kept_value (Some v) (Some w) = same_value v w
same_kept_value _ _ = false

-- field f is approved, and isn't the same
abbrev pub differs_at : Program → Record → Record → ℕ → Bool
differs_at p r s f = is_approved p f && not (same_kept_value (s.fields f) (r.fields f))

-- one of these fields, of which the first has number f, is approved and isn't the same
abbrev pub differs_from : ℕ → List FieldInfo → Record → Record → Bool
differs_from f [] r s = false
differs_from f (i ∷ is) r s = (i.is_approved && not (same_kept_value (s.fields f) (r.fields f))) || differs_from (suc f) is r s

abbrev pub approved_differs : Program → Record → Record → Bool
approved_differs p r s = differs_from 0 p.fields.items r s

-- q is o's in one of the heaps, and its claim count or an approved field isn't the same
abbrev pub part_differs : Program → Ref → Heap → Heap → Ref → Bool
part_differs p o h0 h1 q = (same_ref (h0.get q).owner o || same_ref (h1.get q).owner o) && (not (same_int (h1.get q).count (h0.get q).count) || approved_differs p (h0.get q) (h1.get q))
