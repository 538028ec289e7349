use Rattle.condition_formulas.proofs.Symbolics.{are_later}
use Rattle.condition_stores.proofs.objects.null_or_made.Goals as goal

pub returns-clause-stands : goal.returns-clause-stands
returns-clause-stands c = λ x ws h0 h1 hx hws ha hb.
    let l = c.in_ok-none.ensures.later in
    let none' = c.in_ok-none.ensures.stands _ _ _ hx ha hb in
    let made = c.in_ok-made.ensures.stands _ _ _ _ (l _ _ hx) (are_later l hws) (l _ _ ha) (l _ _ hb) in
    c.or.ensures.stands _ _ (c.in_ok-made.ensures.later _ _ none') made
