use Rattle.condition_formulas.proofs.Rows.{more, none}
use Rattle.condition_stores.proofs.heaps.with_field.Goals as goal

pub returns-clause-stands : goal.returns-clause-stands
returns-clause-stands c = λ h x v hh hx hv. rw c.field_column.ensures at (c.stored.ensures.stands _ (more hh (more hx (more hv none))))
