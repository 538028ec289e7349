-- The rows, by computation.
use Rattle.std.specs.Prelude.{refl}
use Rattle.ebnf.specs.Sets.{first, first_rule, low, low_rule, is_empty}
use Rattle.ebnf.specs.Reading.{read, links, climbs, read_rule, reads}
use Rattle.language_rows.specs.Laws.{TextIsBag, TextIsShop, LockColumns, BagColumns, ShopColumns, LockFormulas, BagFormulas, ShopFormulas}

pub text_is_bag : TextIsBag
unfolding reads read links climbs read_rule first first_rule low low_rule is_empty
text_is_bag m = refl

pub text_is_shop : TextIsShop
unfolding reads read links climbs read_rule first first_rule low low_rule is_empty
text_is_shop m = refl

pub lock_columns_are : LockColumns
lock_columns_are m = (refl, refl)

pub bag_columns_are : BagColumns
bag_columns_are m = (refl, refl)

pub shop_columns_are : ShopColumns
shop_columns_are m = (refl, refl)

pub lock_formulas_are : LockFormulas
lock_formulas_are m = refl

pub bag_formulas_are : BagFormulas
bag_formulas_are m = refl

pub shop_formulas_are : ShopFormulas
shop_formulas_are m = refl
