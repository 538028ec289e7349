use Rattle.condition_walk.proofs.entry.value_ranges.Goals as goal

pub returns-clause-stands : goal.returns-clause-stands
returns-clause-stands c = λ w hw. c.in_ok-all.ensures.stands _ (c.in_ok-id.ensures.stands w hw)
