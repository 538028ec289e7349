use Rattle.condition_stores.proofs.exchange.stored_value.Goals as goal

pub returns-in-CompareExchange-clause-stands : goal.returns-in-CompareExchange-clause-stands
returns-in-CompareExchange-clause-stands c = λ p b xs y all hy. rw c.in-CompareExchange.is (c.compared_value.ensures.stands xs y all hy)

pub returns-in-Exchange-clause-stands : goal.returns-in-Exchange-clause-stands
returns-in-Exchange-clause-stands c = λ p b xs y all hy. rw c.in-Exchange.is (c.operand_at.ensures.stands xs all)

pub returns-in-Increment-clause-stands : goal.returns-in-Increment-clause-stands
returns-in-Increment-clause-stands c = λ p b xs y all hy. rw c.in-Increment.is (c.counted.ensures.stands y hy)

pub returns-in-Decrement-clause-stands : goal.returns-in-Decrement-clause-stands
returns-in-Decrement-clause-stands c = λ p b xs y all hy. rw c.in-Decrement.is (c.counted-in-Decrement.ensures.stands y hy)
