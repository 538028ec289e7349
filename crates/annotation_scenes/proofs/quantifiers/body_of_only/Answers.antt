use Rattle.condition_formulas.proofs.Rows.{all_later, same_ids}
use Rattle.annotation_scenes.proofs.quantifiers.body_of_only.Goals as goal

pub returns-clause-stands : goal.returns-clause-stands
returns-clause-stands c = λ h v r fs h0 h1 h2 h3. c.imp.ensures.stands _ _ (c.in_ok-one.ensures.later _ _ (c.in_ok-same.ensures.later _ _ (c.in_ok-listed.ensures.stands _ _ _ (c.in_ok-claim_id.ensures.later _ _ h0) (c.in_ok-claim_id.ensures.stands _ h1) (c.in_ok-claim_id.ensures.later _ _ h2)))) (c.in_ok-one.ensures.stands _ (same_ids c.deref.ensures.value (c.in_ok-same.ensures.stands _ _ (c.in_ok-listed.ensures.later _ _ (c.in_ok-claim_id.ensures.later _ _ h2)) (all_later c.in_ok-listed.ensures.later (all_later c.in_ok-claim_id.ensures.later h3)))))
