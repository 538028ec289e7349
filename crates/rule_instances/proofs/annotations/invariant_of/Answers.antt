use Rattle.std.proofs.Common.{refl}
use Rattle.condition_formulas.proofs.Rows.{same_ids}
use Rattle.rule_instances.proofs.Places.{a_struct}
use Rattle.rule_instances.proofs.annotations.invariant_of.Goals as goal

pub returns : goal.returns
returns c = λ l is. a_struct c.annotation_at.result l c.args.ty c.if-ty-lt-FIRST_STRUCT.false refl (c.annotation_at.ensures _ (same_ids c.deref.ensures.value is.invariants))
