use Rattle.program_quantifiers.proofs.Adding.{adds_one}
use Rattle.program_quantifiers.proofs.statements.add_listed.Goals as goal

pub returns : goal.returns
returns c = adds_one _ _ c.in_ok-one.ensures.later c.in_ok-one.ensures.stands c.in_ok-push.ensures.items
