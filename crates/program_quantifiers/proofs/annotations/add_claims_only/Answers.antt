use Rattle.program_quantifiers.proofs.Adding.{adds_one}
use Rattle.program_quantifiers.proofs.annotations.add_claims_only.Goals as goal

pub returns : goal.returns
returns c = λ s h. adds_one _ _ c.in_ok-one.ensures.later (c.in_ok-one.ensures.stands s h) c.in_ok-push.ensures.items
