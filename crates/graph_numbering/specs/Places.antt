-- Numbers that nodes of a graph have in another one. Own.
use Rattle.std.specs.Prelude.{ℕ, List, Option, None, Some, get_or, sum_by, if◌then◌else◌, ◌==◌}
use Rattle.graph_numbering.specs.declared.places.Place.{Place}

-- a place says its number in the walk in which it was written
abbrev pub seen : ℕ → Place → Option ℕ
seen walk place = if place.walk == walk then Some place.number else None

-- the number of a node, none where it has none yet
abbrev pub place_of : List (Option ℕ) → ℕ → Option ℕ
place_of places node = get_or places node None

abbrev pub open_place : Option ℕ → ℕ
open_place None = 1
open_place (Some number) = 0

-- how many places have no number
abbrev pub open_places : List (Option ℕ) → ℕ
open_places places = sum_by open_place places
