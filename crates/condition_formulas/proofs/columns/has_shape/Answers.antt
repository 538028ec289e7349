use Rattle.condition_formulas.proofs.Rows.{both, more, none, same_ids}
use Rattle.condition_formulas.proofs.columns.has_shape.Goals as goal

pub returns-clause-stands : goal.returns-clause-stands
returns-clause-stands c = λ h x fs h0 h1 h2. rw c.shape_column.ensures at (c.eq.ensures.stands _ _ (c.in_ok-one.ensures.later _ _ (c.in_ok-held.ensures.stands _ (same_ids c.deref.ensures.value (same_ids c.in_ok-args.ensures (both (more h0 (more h1 none)) h2))))) c.in_ok-one.ensures.stands)
