use Rattle.condition_formulas.proofs.Rows.{same_ids}
use Rattle.rule_instances.proofs.annotations.body_of.Goals as goal

pub returns : goal.returns
returns c = λ l is. c.annotation_at.ensures _ (same_ids c.deref.ensures.value is.bodies)
