use Rattle.condition_code.proofs.Walks.{gives}
use Rattle.condition_stores.proofs.Places.{in_field}
use Rattle.condition_stores.proofs.place.field_place.Goals as goal

pub returns : goal.returns
returns c = λ w hw. gives c.in_ok-o.ensures.later (in_field (c.in_ok-o.ensures.stands _ hw))
