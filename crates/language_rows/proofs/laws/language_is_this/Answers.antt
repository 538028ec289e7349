use Rattle.language_rows.proofs.Computed.{text_is_bag, text_is_shop, lock_columns_are, bag_columns_are, shop_columns_are, lock_formulas_are, bag_formulas_are, shop_formulas_are}
use Rattle.language_rows.proofs.laws.language_is_this.Goals as goal

pub returns : goal.returns
returns c =
    record {
      bag_text = text_is_bag;
      shop_text = text_is_shop;
      lock_columns = lock_columns_are;
      bag_columns = bag_columns_are;
      shop_columns = shop_columns_are;
      lock_formulas = lock_formulas_are;
      bag_formulas = bag_formulas_are;
      shop_formulas = shop_formulas_are;
    }
