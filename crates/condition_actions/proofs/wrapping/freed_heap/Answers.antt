use Rattle.condition_formulas.specs.Standing.{Later}
use Rattle.condition_actions.proofs.wrapping.freed_heap.Goals as goal

pub returns-clause-stands : goal.returns-clause-stands
returns-clause-stands c = λ h x hh hx.
    let on : Later c.args.graph.now c.null.new.graph = λ n f g. c.in_ok-nobody.ensures.later n f (c.in_ok-freed.ensures.later n f g) in
    c.status.ensures.stands h x _ _ (on _ _ hh) (on _ _ hx) (c.in_ok-nobody.ensures.later _ _ c.in_ok-freed.ensures.stands) c.in_ok-nobody.ensures.stands
