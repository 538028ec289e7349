-- Finite sets of references. A set is the list of its members in reference order, each once. Own.
use Rattle.std.specs.Prelude.{Bool, true, false, not, ◌&&◌, ◌||◌, if◌then◌else◌, List, [], ◌∷◌, filter}
use Rattle.object_types.specs.declared.references.Ref.{Ref}
use Rattle.object_types.specs.References.{same_ref, ref_lt}
pub use Rattle.object_types.specs.Places.{ordered_from, is_ordered}
use Rattle.object_types.specs.Places.{placed}

abbrev pub every : {X : Type 0} → (X → Bool) → List X → Bool
every test [] = true
every test (x ∷ xs) = test x && every test xs

abbrev pub some : {X : Type 0} → (X → Bool) → List X → Bool
some test [] = false
some test (x ∷ xs) = test x || some test xs

unfoldable pub is_in : Ref → List Ref → Bool
is_in q [] = false
is_in q (r ∷ rs) = same_ref q r || is_in q rs

abbrev pub with_member : Ref → List Ref → List Ref
with_member = placed ref_lt same_ref

abbrev pub without_member : Ref → List Ref → List Ref
without_member r = filter (λ q. not (same_ref q r))

-- the set where r is a member, or isn't
abbrev pub set_member : Ref → Bool → List Ref → List Ref
set_member r holds set = if holds then with_member r set else without_member r set

abbrev pub set_of : List Ref → List Ref
set_of [] = []
set_of (r ∷ rs) = with_member r (set_of rs)

abbrev pub all_distinct : List Ref → Bool
all_distinct [] = true
all_distinct (r ∷ rs) = not (is_in r rs) && all_distinct rs
