use Rattle.condition_stores.proofs.objects.nothing_new.Goals as goal

pub returns-clause-stands : goal.returns-clause-stands
returns-clause-stands c = λ x h0 h1 hx ha hb.
    let l = c.in_ok-nothing.ensures.later in
    let none' = c.in_ok-none.ensures.stands _ _ (l _ _ hx) c.in_ok-nothing.ensures.stands in
    let m = c.in_ok-none.ensures.later in
    let same = c.in_ok-same.ensures.stands _ _ (m _ _ (l _ _ hb)) (m _ _ (l _ _ ha)) in
    c.and.ensures.stands _ _ (c.in_ok-same.ensures.later _ _ none') same
