use Rattle.condition_formulas.proofs.Rows.{same_ids}
use Rattle.condition_stores.proofs.exchange.is_in_type.Goals as goal

pub returns-clause-stands : goal.returns-clause-stands
returns-clause-stands c = λ y hy. c.all_of.ensures.stands _ (same_ids c.deref.ensures.value (rw c.type_of_field.ensures at (c.in_ok-fits.ensures.stands _ hy)))
