use Rattle.condition_formulas.proofs.Symbolics.{is_truth}
use Rattle.condition_code.proofs.Walks.{gives}
use Rattle.condition_code.proofs.forms.negation.Goals as goal

pub returns : goal.returns
returns c = λ w hw. gives c.in_ok-id.ensures.later (is_truth (c.in_ok-id.ensures.stands _ hw))
