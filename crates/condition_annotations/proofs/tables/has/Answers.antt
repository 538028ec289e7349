use Rattle.condition_formulas.proofs.Rows.{same_ids}
use Rattle.condition_formulas.proofs.Symbolics.{is_truth}
use Rattle.condition_annotations.proofs.tables.has.Goals as goal

pub returns-clause-stands : goal.returns-clause-stands
returns-clause-stands c = λ s h.
    let values = rw c.deref.ensures.value at (c.in_ok-values.ensures.stands s h) in
    is_truth (c.in_ok-id.ensures.stands _ _ _ (c.in_ok-values.ensures.later _ _ (c.heap-heap.ensures _ _ h)) (c.in_ok-values.ensures.later _ _ h.subject_is) (same_ids c.deref-2.ensures.value values))
