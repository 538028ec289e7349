use Rattle.condition_formulas.proofs.Rows.{more, none}
use Rattle.condition_formulas.proofs.columns.owns.Goals as goal

pub returns-clause-stands : goal.returns-clause-stands
returns-clause-stands c = λ h x y h0 h1 h2. c.eq.ensures.stands _ _ (c.in_ok-one.ensures.later _ _ (c.in_ok-held.ensures.stands _ (more h0 (more h1 (more h2 none))))) c.in_ok-one.ensures.stands
