-- Which conclusions become lemmas, as the code finds it: by how often each node is concluded. Own.
use Rattle.std.specs.Prelude.{◌≡◌, ℕ, suc, ◌==◌, ◌<◌, Bool, true, false, if◌then◌else◌, List, [], ◌∷◌, ◌++◌, map, slice_index_or, slice_set, Option, Some, None}
use Rattle.std.specs.Borrow.{Bor}
use Rattle.certificate_upgrade.specs.declared.conclusion.Conclusion.{Conclusion}
use Rattle.upgrade_lemmas.specs.declared.choice.Count.{Count}
use Rattle.upgrade_lemmas.specs.declared.choice.Count.TheVariants.{Zero, One, More}
use Rattle.upgrade_lemmas.specs.Made.{place_at}

-- the conclusions behind references
abbrev pub referents : List (Bor Conclusion) → List Conclusion
referents = map (λ c. c.now)

-- ---- how often a node is concluded

abbrev pub is_more : Count → Bool
is_more Zero = false
is_more One = false
is_more More = true

abbrev pub one_more : Count → Count
one_more Zero = One
one_more One = More
one_more More = More

-- what a table has for the node
abbrev pub count_at : List Count → ℕ → Count
count_at counts id = slice_index_or counts id Zero

-- the node's count behind these conclusions
abbrev pub tally : Count → ℕ → List Conclusion → Count
tally count id [] = count
tally count id (c ∷ cs) = tally (if id == c.tree then one_more count else count) id cs

-- a count for each of so many nodes
pub record AreCounts (nodes : ℕ) (cs : List Conclusion) (counts : List Count) : Type 0 where
  pub each : (id : ℕ) → id < nodes → count_at counts id ≡ tally Zero id cs

-- ---- the first of each tree

-- the conclusion, where its node has more than one
abbrev pub first_of : List Count → Conclusion → List Conclusion
first_of counts c = if is_more (count_at counts c.tree) then c ∷ [] else []

-- the counts behind it: its node has none left
abbrev pub without_node : List Count → Conclusion → List Count
without_node counts c = if is_more (count_at counts c.tree) then slice_set counts c.tree Zero else counts

abbrev pub firsts : List Count → List Conclusion → List Conclusion
firsts counts [] = []
firsts counts (c ∷ cs) = first_of counts c ++ firsts (without_node counts c) cs

-- ---- places of nodes

-- the place of the first conclusion of the node, the first of the list having the place n
abbrev pub place_from : ℕ → ℕ → List Conclusion → Option ℕ
place_from n id [] = None
place_from n id (c ∷ cs) = if id == c.tree then Some n else place_from (suc n) id cs

-- the table with this place for the node, if it has none there yet
abbrev pub put_place : Option ℕ → List (Option ℕ) → ℕ → ℕ → List (Option ℕ)
put_place None places id place = slice_set places id (Some place)
put_place (Some p) places id place = places

abbrev pub with_place : List (Option ℕ) → ℕ → ℕ → List (Option ℕ)
with_place places id place = put_place (place_at places id) places id place
