use Rattle.condition_formulas.proofs.columns.mutable.Goals as goal

pub returns-clause-stands : goal.returns-clause-stands
returns-clause-stands c = λ t h x h0 h1 h2. c.and.ensures.stands _ _ (c.in_ok-mine.ensures.later _ _ (c.in_ok-holder.ensures.later _ _ (c.in_ok-open.ensures.stands _ _ (c.in_ok-one.ensures.later _ _ (c.in_ok-now.ensures.stands _ _ h1 h2)) c.in_ok-one.ensures.stands))) (c.in_ok-mine.ensures.stands _ _ (c.in_ok-holder.ensures.stands _ _ (c.in_ok-open.ensures.later _ _ (c.in_ok-one.ensures.later _ _ (c.in_ok-now.ensures.later _ _ h1))) (c.in_ok-open.ensures.later _ _ (c.in_ok-one.ensures.later _ _ (c.in_ok-now.ensures.later _ _ h2)))) (c.in_ok-holder.ensures.later _ _ (c.in_ok-open.ensures.later _ _ (c.in_ok-one.ensures.later _ _ (c.in_ok-now.ensures.later _ _ h0)))))
