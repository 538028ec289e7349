use Rattle.condition_formulas.proofs.Symbolics.{is_truth}
use Rattle.condition_annotations.proofs.words.is_fresh.Goals as goal

pub returns-clause-stands : goal.returns-clause-stands
returns-clause-stands c = λ s v h0 h1. is_truth (c.in_ok-id.ensures.stands _ _ (c.in_ok-holder.ensures.stands _ _ (c.in_ok-o.ensures.later _ _ h0.before_is) (c.in_ok-o.ensures.stands _ h1)) (c.in_ok-holder.ensures.later _ _ (c.in_ok-o.ensures.later _ _ h0.me_is)))
