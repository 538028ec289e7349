use Rattle.condition_formulas.proofs.Rows.{more, none}
use Rattle.condition_claims.proofs.heaps.with_object.Goals as goal

pub returns-clause-stands : goal.returns-clause-stands
returns-clause-stands c = λ d x h hd hx hh.
    let on = c.in_ok-one.ensures.later in
    c.set.ensures.stands _ _ _ (on _ _ hh) (more (on _ _ hd) (more (on _ _ hx) none)) c.in_ok-one.ensures.stands
