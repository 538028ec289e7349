use Rattle.condition_formulas.proofs.Rows.{more, none}
use Rattle.condition_formulas.proofs.Symbolics.{are_later}
use Rattle.condition_stores.proofs.Places.{then_later}
use Rattle.condition_stores.proofs.objects.is_made.Goals as goal

pub returns-clause-stands : goal.returns-clause-stands
returns-clause-stands c = λ x ws h0 h1 hx hws ha hb.
    let l = c.in_ok-typed.ensures.later in
    let typed = c.in_ok-typed.ensures.stands _ hx in
    let absent = c.in_ok-absent.ensures.stands _ _ (l _ _ ha) (l _ _ hx) in
    let k = then_later l c.in_ok-absent.ensures.later in
    let heap = c.in_ok-heap.ensures.stands _ _ _ (k _ _ hx) (are_later k hws) (k _ _ ha) in
    let j = then_later k c.in_ok-heap.ensures.later in
    let same = c.in_ok-same.ensures.stands _ _ (j _ _ hb) heap in
    let m = then_later c.in_ok-heap.ensures.later c.in_ok-same.ensures.later in
    c.all_of.ensures.stands _ (more (m _ _ (c.in_ok-absent.ensures.later _ _ typed)) (more (m _ _ absent) (more same none)))
