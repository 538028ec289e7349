use Rattle.condition_formulas.proofs.Rows.{same_ids}
use Rattle.annotation_scenes.proofs.quantifiers.quantifier.Goals as goal

pub returns-clause-stands : goal.returns-clause-stands
returns-clause-stands c = λ s f h0 h1. c.all.ensures.stands _ (same_ids c.deref.ensures.value (c.in_ok-free.ensures.stands _ _ h0 h1))
