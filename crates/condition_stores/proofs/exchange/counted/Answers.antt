use Rattle.condition_stores.proofs.exchange.counted.Goals as goal

pub returns-clause-stands : goal.returns-clause-stands
returns-clause-stands c = λ y hy. c.compute.ensures.stands _ _ (c.in_ok-one.ensures.later _ _ hy) c.in_ok-one.ensures.stands
