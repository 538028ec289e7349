use Rattle.condition_formulas.proofs.Rows.{none, more, given_ids}
use Rattle.condition_formulas.proofs.symbolic.ranges.Goals as goal

pub returns-in_ok-present-in-Object-clause-stands : goal.returns-in_ok-present-in-Object-clause-stands
returns-in_ok-present-in-Object-clause-stands c =
    λ f h. rw c.in-Object.is (given_ids c.listed-in-Object.result c.listed-in-Object.ensures (more (c.in_ok-present-in-Object.ensures.stands _ (c.in_ok-absent-in-Object.ensures.stands f h)) none))
