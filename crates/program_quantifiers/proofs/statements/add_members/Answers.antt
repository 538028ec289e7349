use Rattle.program_quantifiers.proofs.Adding.{adds_one}
use Rattle.program_quantifiers.proofs.statements.add_members.Goals as goal

pub returns : goal.returns
returns c = adds_one _ _ c.in_ok-one.ensures.later (rw (c.deref.ensures.value, c.has_fixed_owns-is_fixed.ensures) at c.in_ok-one.ensures.stands) c.in_ok-push.ensures.items
