-- The columns of the three programs, by their numbers, with the sorts of their keys and values (docs/CONDITIONS.md, "State" and "Terms"). Own.
use Rattle.std.specs.Prelude.{List, [], ◌∷◌, ◌++◌}
use Rattle.terms.specs.declared.sort.Sort.{Sort}
use Rattle.terms.specs.declared.sort.Sort.TheVariants as s
use Rattle.terms.specs.declared.sort.Column.{Column as Sorted}
use Rattle.term_meaning.specs.Columns.{Column, Modes, Owners, Counts, OwnedSets, ClaimedSets, Field, Shape}

-- a column with these keys and values of this sort
abbrev pub column : List Sort → Sort → Sorted
column keys value = record { keys = keys; value = value }

-- of each reference a number, or a reference
abbrev pub number_of_each : Sorted
number_of_each = column (s.Ref ∷ []) s.Int

abbrev pub reference_of_each : Sorted
reference_of_each = column (s.Ref ∷ []) s.Ref

-- whether the second reference is one of the first one's
abbrev pub set_of_each : Sorted
set_of_each = column (s.Ref ∷ s.Ref ∷ []) s.Int

-- 0 mode, 1 owner, 2 claim count, 3 owned set, 4 claimed set
abbrev pub of_every_program : List Sorted
of_every_program = number_of_each ∷ reference_of_each ∷ number_of_each ∷ set_of_each ∷ set_of_each ∷ []

-- 5 v, 6 locked, 7 protected_obj; 8 the conjunct \true, whose one key is the claim
abbrev pub lock_columns : List Sorted
lock_columns = of_every_program ++ number_of_each ∷ number_of_each ∷ reference_of_each ∷ number_of_each ∷ []

abbrev pub lock_names : List Column
lock_names = Modes ∷ Owners ∷ Counts ∷ OwnedSets ∷ ClaimedSets ∷ Field 0 ∷ Field 1 ∷ Field 2 ∷ Shape 0 ∷ []

-- 5 n, 6 next, 7 size, 8 key; 9 the conjunct p -> n >= k, whose keys are the claim, p and k
abbrev pub bag_columns : List Sorted
bag_columns =
    of_every_program ++ number_of_each ∷ reference_of_each ∷ number_of_each ∷ reference_of_each
    ∷ column (s.Ref ∷ s.Ref ∷ s.Int ∷ []) s.Int ∷ []

abbrev pub bag_names : List Column
bag_names = Modes ∷ Owners ∷ Counts ∷ OwnedSets ∷ ClaimedSets ∷ Field 0 ∷ Field 1 ∷ Field 2 ∷ Field 3 ∷ Shape 0 ∷ []

-- 5 next, 6 rank, 7 first, 8 best; no claim is made, so there is no conjunct
abbrev pub shop_columns : List Sorted
shop_columns = of_every_program ++ reference_of_each ∷ number_of_each ∷ reference_of_each ∷ reference_of_each ∷ []

abbrev pub shop_names : List Column
shop_names = Modes ∷ Owners ∷ Counts ∷ OwnedSets ∷ ClaimedSets ∷ Field 0 ∷ Field 1 ∷ Field 2 ∷ Field 3 ∷ []
