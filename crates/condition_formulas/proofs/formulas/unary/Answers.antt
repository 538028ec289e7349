use Rattle.condition_formulas.proofs.Rows.{more, none}
use Rattle.condition_formulas.proofs.formulas.unary.Goals as goal

pub returns-clause-stands : goal.returns-clause-stands
returns-clause-stands c = λ f h0. c.node.ensures.stands _ (more h0 none)
