use Rattle.condition_formulas.proofs.Rows.{same_ids}
use Rattle.annotation_scenes.proofs.quantifiers.implied_by_type.Goals as goal

pub returns-clause-stands : goal.returns-clause-stands
returns-clause-stands c = λ r f h0 h1. c.imp.ensures.stands _ _ (c.in_ok-typed.ensures.stands _ (same_ids c.deref.ensures.value (c.in_ok-within.ensures.stands _ h0))) (c.in_ok-typed.ensures.later _ _ (c.in_ok-within.ensures.later _ _ h1))
