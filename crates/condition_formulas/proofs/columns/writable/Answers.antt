use Rattle.condition_formulas.proofs.Rows.{all_later, same_ids, then_one}
use Rattle.condition_formulas.proofs.columns.writable.Goals as goal

pub returns-clause-stands : goal.returns-clause-stands
returns-clause-stands c = λ t e w x h0 h1 h2 h3. c.any_of.ensures.stands _ (same_ids c.deref.ensures.value (same_ids c.in_ok-push.ensures.items (then_one (all_later c.in_ok-other.ensures.later (all_later c.in_ok-mine.ensures.later (all_later c.in_ok-holder.ensures.later (c.in_ok-any.ensures.stands _ _ h3 h2)))) (c.in_ok-other.ensures.stands _ (c.in_ok-mine.ensures.stands _ _ (c.in_ok-holder.ensures.stands _ _ (c.in_ok-any.ensures.later _ _ h1) (c.in_ok-any.ensures.later _ _ h3)) (c.in_ok-holder.ensures.later _ _ (c.in_ok-any.ensures.later _ _ h0)))))))
