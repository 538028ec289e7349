use Rattle.condition_formulas.proofs.Rows.{more, none}
use Rattle.condition_stores.proofs.heaps.without_members.Goals as goal

pub returns-clause-stands : goal.returns-clause-stands
returns-clause-stands c = λ h x hh hx. c.node.ensures.stands _ (more hh (more hx none))
