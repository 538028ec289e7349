use Rattle.condition_formulas.proofs.Symbolics.{are_later}
use Rattle.condition_stores.proofs.Places.{then_later}
use Rattle.condition_stores.proofs.objects.heap_with.Goals as goal

pub returns-clause-stands : goal.returns-clause-stands
returns-clause-stands c = λ x ws h hx hws hh.
    let k = then_later c.in_ok-one.ensures.later c.in_ok-thread.ensures.later in
    let m = c.in_ok-open.ensures.later in
    let open' = c.in_ok-open.ensures.stands _ _ _ _ (k _ _ hh) (k _ _ hx) (c.in_ok-thread.ensures.later _ _ c.in_ok-one.ensures.stands) c.in_ok-thread.ensures.stands in
    c.with_fields.ensures.stands _ _ _ (m _ _ (k _ _ hx)) (are_later m (are_later k hws)) open'
