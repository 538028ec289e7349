-- Maps and sets whose keys are lent names, read by the bytes of a name.
use Rattle.std.specs.Prelude.{ℕ, Bool, List, Option, Some, None, if◌then◌else◌}
use Rattle.std.specs.Borrow.{Bor}
use Rattle.std.specs.Str.{bytes_eq}
use Rattle.indexmap.specs.IndexMap as maps
use Rattle.indexmap.specs.IndexMap.{IndexMap}
use Rattle.indexmap.specs.IndexSet as sets
use Rattle.indexmap.specs.IndexSet.{IndexSet}

-- what a map has at a name. Own
abbrev pub at : {X S : Type 0} → IndexMap (Bor (List ℕ)) X S → List ℕ → Option X
at m y = maps.get_by (λ k. bytes_eq y k.now) m

-- whether a set has a name. Own
abbrev pub contains : {S : Type 0} → IndexSet (Bor (List ℕ)) S → List ℕ → Bool
contains s y = sets.contains_by (λ k. bytes_eq y k.now) s

-- a place, where a test says yes. Own
abbrev pub place_if : Bool → ℕ → Option ℕ
place_if b place = if b then Some place else None
