use Rattle.condition_formulas.proofs.Rows.{all_later}
use Rattle.condition_code.proofs.access.writable.Goals as goal

pub returns-clause-stands : goal.returns-clause-stands
returns-clause-stands c = λ b x hb hx.
    c.writable.ensures.stands _ _ _ _ c.in_ok-thread.ensures.stands (c.in_ok-thread.ensures.later _ _ hb.entry_is) (all_later c.in_ok-thread.ensures.later hb.writes_are) (c.in_ok-thread.ensures.later _ _ hx)
