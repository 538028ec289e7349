use Rattle.condition_formulas.proofs.Rows.{more, none}
use Rattle.condition_stores.proofs.heaps.with_owner.Goals as goal

pub returns-clause-stands : goal.returns-clause-stands
returns-clause-stands c = λ h x t hh hx ht. c.stored.ensures.stands _ (more hh (more hx (more ht none)))
