use Rattle.condition_code.proofs.States.{same_values}
use Rattle.condition_code.proofs.Walks.{gives}
use Rattle.condition_code.proofs.forms.local.Goals as goal

pub returns : goal.returns
returns c = λ s hs. gives c.in_ok-value.ensures.later (c.in_ok-value.ensures.stands _ (same_values c.deref.ensures.value hs.locals_are))
