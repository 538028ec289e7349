use Rattle.condition_formulas.proofs.Rows.{same_ids}
use Rattle.condition_stores.proofs.stores.is_in_block.Goals as goal

pub returns-clause-stands : goal.returns-clause-stands
returns-clause-stands c = λ b x hb hx. c.any_of.ensures.stands _ (same_ids c.deref.ensures.value (c.in_ok-listed.ensures.stands b x hb hx))
