use Rattle.condition_formulas.proofs.Rows.{more, none}
use Rattle.condition_code.proofs.access.inv.Goals as goal

pub returns-clause-stands : goal.returns-clause-stands
returns-clause-stands c = λ x h0 h1 hx ha hb. c.node.ensures.stands _ (more hx (more ha (more hb none)))
