use Rattle.condition_formulas.proofs.Rows.{same_ids}
use Rattle.condition_claims.proofs.tests.of_claimable_type.Goals as goal

pub returns-clause-stands : goal.returns-clause-stands
returns-clause-stands c = λ x hx.
    let number = c.in_ok-number.ensures.stands _ hx in
    let types = rw c.deref.ensures.value at c.in_ok-types.ensures.stands in
    let any = c.in_ok-any.ensures.stands _ _ (c.in_ok-types.ensures.later _ _ number) (same_ids c.deref-2.ensures.value types) in
    c.any_of.ensures.stands _ (same_ids c.deref-3.ensures.value any)
