use Rattle.condition_formulas.proofs.Rows.{more, none}
use Rattle.condition_formulas.proofs.formulas.ite.Goals as goal

pub returns-clause-stands : goal.returns-clause-stands
returns-clause-stands c = λ b x y h0 h1 h2. c.node.ensures.stands _ (more h0 (more h1 (more h2 none)))
