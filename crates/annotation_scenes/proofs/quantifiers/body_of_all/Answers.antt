use Rattle.condition_formulas.proofs.Symbolics.{symbolic_later}
use Rattle.annotation_scenes.proofs.quantifiers.body_of_all.Goals as goal

pub returns-clause-stands : goal.returns-clause-stands
returns-clause-stands c = λ h v r w h0 h1 h2 h3. c.implied_by_type.ensures.stands _ _ (c.in_ok-body.ensures.later _ _ (c.in_ok-holds.ensures.later _ _ (c.in_ok-owned.ensures.later _ _ (c.in_ok-owner.ensures.later _ _ h2)))) (c.in_ok-body.ensures.stands _ _ (c.in_ok-holds.ensures.later _ _ (c.in_ok-owned.ensures.stands _ _ _ (c.in_ok-owner.ensures.later _ _ h0) (c.in_ok-owner.ensures.stands _ h1) (c.in_ok-owner.ensures.later _ _ h2))) (c.in_ok-holds.ensures.stands _ (symbolic_later c.in_ok-owned.ensures.later (symbolic_later c.in_ok-owner.ensures.later h3))))
