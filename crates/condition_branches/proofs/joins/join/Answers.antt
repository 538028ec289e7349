use Rattle.std.proofs.Common.{◌∙◌}
use Rattle.condition_code.proofs.States.{same_values}
use Rattle.condition_branches.proofs.joins.join.Goals as goal

pub returns-clause-stands : goal.returns-clause-stands
returns-clause-stands c = λ s x y hs hx hy.
    let joined = c.in_ok-joined.ensures.stands y s.locals x.locals y.locals hs (same_values c.deref-2.ensures.value hx.locals_are) (same_values (c.deref-3.ensures.value ∙ c.in_ok-locals.ensures ∙ c.deref.ensures.value) hy.locals_are) hy in
    c.in_ok-behind.ensures.stands x.heap _ (c.in_ok-joined.ensures.later _ _ hx.heap_is) joined
