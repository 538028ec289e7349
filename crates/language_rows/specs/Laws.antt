-- What the columns and the quantified formulas of the three programs are. Own.
use Rattle.std.specs.Prelude.{◌≡◌, ℕ, List, [], ◌∷◌, Option, Some, None, map}
use Rattle.method.specs.Trace.{Memory}
use Rattle.method.specs.declared.program.Program.{Program}
use Rattle.typed_program.specs.Rows.{tables}
use Rattle.typed_program.specs.Views as seen
use Rattle.term_meaning.specs.Columns.{columns_of, column_sorts}
use Rattle.conditions.specs.Quantified.{QuantifiedFormula, quantified_formula}
use Rattle.lock_conditions.specs.LockProgram.{lock}
use Rattle.language_rows.specs.BagSource.{bag_text}
use Rattle.language_rows.specs.BagProgram.{bag}
use Rattle.language_rows.specs.ShopSource.{shop_text}
use Rattle.language_rows.specs.ShopProgram.{shop}
use Rattle.language_rows.specs.Columns.{lock_columns, lock_names, bag_columns, bag_names, shop_columns, shop_names}
use Rattle.language_rows.specs.LockFormulas.{wrap_of_lock, wrap_in_worker, wrap_in_main}
use Rattle.language_rows.specs.BagFormulas.{members_are_last, lists_cell_alone, owns_no_cell, members_are_closed, wrap_of_bag, claim_lists_no_other}
use Rattle.language_rows.specs.ShopFormulas.{each_has_next, none_is_next, has_no_lowest, is_lowest, each_shelf_is_chained, each_is_chained, none_comes_before}

-- the typed programs of the texts are those that are spoken of here
abbrev pub TextIsBag : Type 0
TextIsBag = (m : Memory) → tables bag_text ≡ Some (seen.program (bag m))

abbrev pub TextIsShop : Type 0
TextIsShop = (m : Memory) → tables shop_text ≡ Some (seen.program (shop m))

-- the columns of each, what they are and their sorts
abbrev pub LockColumns : Type 0
LockColumns = (m : Memory) → (columns_of (lock m) ≡ lock_names) × (column_sorts (lock m) ≡ lock_columns)

abbrev pub BagColumns : Type 0
BagColumns = (m : Memory) → (columns_of (bag m) ≡ bag_names) × (column_sorts (bag m) ≡ bag_columns)

abbrev pub ShopColumns : Type 0
ShopColumns = (m : Memory) → (columns_of (shop m) ≡ shop_names) × (column_sorts (shop m) ≡ shop_columns)

-- the program's quantified formulas with these numbers
abbrev pub formulas_at : Program → List ℕ → List (Option QuantifiedFormula)
formulas_at p ns = map (quantified_formula p) ns

-- those of the lock, which has no further one
abbrev pub LockFormulas : Type 0
LockFormulas =
    (m : Memory) →
    formulas_at (lock m) (0 ∷ 1 ∷ 2 ∷ 3 ∷ [])
    ≡ Some wrap_of_lock ∷ Some wrap_in_worker ∷ Some wrap_in_main ∷ None ∷ []

-- those of the bag
abbrev pub BagFormulas : Type 0
BagFormulas =
    (m : Memory) →
    formulas_at (bag m) (0 ∷ 1 ∷ 2 ∷ 3 ∷ 4 ∷ 5 ∷ 6 ∷ [])
    ≡ Some members_are_last ∷ Some lists_cell_alone ∷ Some owns_no_cell
    ∷ Some members_are_closed ∷ Some wrap_of_bag ∷ Some claim_lists_no_other
    ∷ None ∷ []

-- those of the shop
abbrev pub ShopFormulas : Type 0
ShopFormulas =
    (m : Memory) →
    formulas_at (shop m) (0 ∷ 1 ∷ 2 ∷ 3 ∷ 4 ∷ 5 ∷ 6 ∷ 7 ∷ [])
    ≡ Some each_has_next ∷ Some none_is_next ∷ Some has_no_lowest ∷ Some is_lowest
    ∷ Some each_shelf_is_chained ∷ Some each_is_chained ∷ Some none_comes_before
    ∷ None ∷ []
