use Rattle.condition_formulas.proofs.Rows.{none, more, both, all_later, given_ids}
use Rattle.quantified_formulas.proofs.bodies.bound_within.Goals as goal

pub returns-clause-stands : goal.returns-clause-stands
returns-clause-stands c = λ s h.
    given_ids c.joined.result c.joined.ensures (both (more c.in_ok-nothing.ensures.stands none) (all_later c.in_ok-nothing.ensures.later h.bound_are))
