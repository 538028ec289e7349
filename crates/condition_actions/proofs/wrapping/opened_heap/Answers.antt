use Rattle.condition_formulas.proofs.Rows.{more, none}
use Rattle.condition_actions.proofs.wrapping.opened_heap.Goals as goal

pub returns-clause-stands : goal.returns-clause-stands
returns-clause-stands c = λ h x hh hx.
    let on = c.in_ok-thread.ensures.later in
    c.node.ensures.stands _ (more (on _ _ hh) (more (on _ _ hx) (more c.in_ok-thread.ensures.stands none)))
