use Rattle.condition_formulas.proofs.Rows.{more, none}
use Rattle.condition_formulas.proofs.formulas.binary.Goals as goal

pub returns-clause-stands : goal.returns-clause-stands
returns-clause-stands c = λ f g h0 h1. c.node.ensures.stands _ (more h0 (more h1 none))
