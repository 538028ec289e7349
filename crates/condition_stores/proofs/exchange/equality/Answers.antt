use Rattle.condition_stores.proofs.exchange.equality.Goals as goal

pub returns-then-equal-clause-stands : goal.returns-then-equal-clause-stands
returns-then-equal-clause-stands c = λ f g hf hg. rw c.if-equal.true (c.eq.ensures.stands _ _ hf hg)

pub returns-clause-stands : goal.returns-clause-stands
returns-clause-stands c = λ f g hf hg. rw c.if-equal.false (c.unlike.ensures.stands _ _ hf hg)
