-- The tree that the code's heap keeps its records in, and the look-ups in their list that it answers. Own.
use Rattle.std.specs.Prelude.{◌≡◌, ℕ, Bool, true, if◌then◌else◌, List, [], ◌∷◌, ◌++◌, Option, Some, None}
use Rattle.std.specs.List.{find}
use Rattle.std.specs.Option.{option_or, option_map}
use Rattle.object_types.specs.declared.references.Ref.{Ref}
use Rattle.object_types.specs.declared.records.Stored.{Stored}
use Rattle.object_types.specs.declared.trees.Tree.{Tree, Empty, Fork'}
use Rattle.object_types.specs.References.{same_ref, ref_lt}
use Rattle.object_types.specs.Places.{is_ordered, replaced}
use Rattle.object_types.specs.Lookups.{reference_of, serial_of, stored_lt, says_from, is_present}

-- the records of the tree, from left to right
abbrev pub in_order : Tree → List Stored
in_order Empty = []
in_order (Fork' p before stored after height) = in_order before ++ stored.value ∷ in_order after

abbrev pub IsInOrder : Tree → Type 0
IsInOrder tree = is_ordered stored_lt (in_order tree) ≡ true

-- what the list has at a reference
abbrev pub stored_at : Ref → List Stored → Option Stored
stored_at o = find (λ s. same_ref o s.reference)

-- the list with one more record, in place of the one with its reference
abbrev pub with_stored : Stored → List Stored → List Stored
with_stored = replaced reference_of ref_lt same_ref

-- the first reference from `from` on at which the list says something
abbrev pub first_from : Ref → List Stored → Option Ref
first_from from ss = option_map reference_of (find (says_from from) ss)

-- the last element that passes
abbrev pub find_last : {X : Type 0} → (X → Bool) → List X → Option X
find_last passes [] = None
find_last passes (x ∷ xs) = option_or (find_last passes xs) (if passes x then Some x else None)

-- the serial of the last object of the type
abbrev pub newest_of : ℕ → List Stored → Option ℕ
newest_of ty ss = option_map serial_of (find_last (is_present ty) ss)
