use Rattle.condition_formulas.proofs.Rows.{given_ids, more, none}
use Rattle.condition_formulas.proofs.symbolic.bounds.Goals as goal

pub returns-clause-stands : goal.returns-clause-stands
returns-clause-stands c = λ f h0. given_ids c.listed.result c.listed.ensures (more (c.in_ok-below.ensures.later _ _ (c.in_ok-high.ensures.later _ _ (c.in_ok-above.ensures.stands _ _ c.in_ok-low.ensures.stands (c.in_ok-low.ensures.later _ _ h0)))) (more (c.in_ok-below.ensures.stands _ _ (c.in_ok-high.ensures.later _ _ (c.in_ok-above.ensures.later _ _ (c.in_ok-low.ensures.later _ _ h0))) c.in_ok-high.ensures.stands) none))
