-- How the search for a stable set widens. Own.
use Rattle.std.specs.Prelude.{◌≡◌, ℕ, ◌+◌, ◌≤◌, Bool, true, not, ◌&&◌, ◌||◌, List, count_by, length}
use Rattle.object_types.specs.declared.references.Ref.{Ref}
use Rattle.ownership.specs.declared.search.Search.{Search}
use Rattle.object_types.specs.Sets.{is_in}

-- what is left to do at most, if nothing but these is ever found
abbrev pub left_of : List Ref → Search → ℕ
left_of all s = count_by (λ q. not (is_in q s.found)) all + length s.waiting.items

-- exactly what passes is found as well, and what of it is new waits to be followed
pub record Adds (passes : Ref → Bool) (before after : Search) : Type 0 where
  pub found : (q : Ref) → is_in q after.found ≡ (is_in q before.found || passes q)
  pub waits : (q : Ref) → is_in q after.waiting.items ≡ (is_in q before.waiting.items || (passes q && not (is_in q before.found)))
  pub work : (all : List Ref) → ((q : Ref) → passes q ≡ true → is_in q all ≡ true) → left_of all after ≤ left_of all before
