use Rattle.condition_formulas.proofs.Symbolics.{is_reference}
use Rattle.condition_code.proofs.Walks.{gives}
use Rattle.condition_code.proofs.forms.nothing.Goals as goal

pub returns : goal.returns
returns c = gives c.in_ok-id.ensures.later (is_reference c.in_ok-id.ensures.stands)
