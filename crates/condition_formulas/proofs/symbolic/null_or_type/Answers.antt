use Rattle.condition_formulas.proofs.symbolic.null_or_type.Goals as goal

pub returns-clause-stands : goal.returns-clause-stands
returns-clause-stands c = λ f h0. c.or.ensures.stands _ _ (c.in_ok-typed.ensures.later _ _ (c.in_ok-none.ensures.stands _ _ (c.in_ok-nothing.ensures.later _ _ h0) c.in_ok-nothing.ensures.stands)) (c.in_ok-typed.ensures.stands _ (c.in_ok-none.ensures.later _ _ (c.in_ok-nothing.ensures.later _ _ h0)))
