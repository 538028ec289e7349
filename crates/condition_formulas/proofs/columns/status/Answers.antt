use Rattle.condition_formulas.proofs.Rows.{more, none}
use Rattle.condition_formulas.proofs.columns.status.Goals as goal

pub returns-clause-stands : goal.returns-clause-stands
returns-clause-stands c = λ h x m t h0 h1 h2 h3. c.stored-2.ensures.stands _ (more (c.in_ok-changed.ensures.stands _ (more h0 (more h1 (more h2 none)))) (more (c.in_ok-changed.ensures.later _ _ h1) (more (c.in_ok-changed.ensures.later _ _ h3) none)))
